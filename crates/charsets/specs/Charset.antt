-- Charsets, and texts of them in UTF-8.
use Rattle.std.specs.Prelude.{ℕ, Bool, ◌==◌, ◌-◌, nat_lt, List, get_or, Option, None, Some, is_some, codes, encode_utf8_all, if◌then◌else◌}
use Rattle.std.specs.List.{filter_map, list_all}
use Rattle.std.specs.Option.{option_and_then, option_map}
use Rattle.std.specs.Str.{is_utf8, str_eq_ignore_ascii_case}
use Rattle.sieve_profile.specs.Profile.{Profile, has}
use Rattle.sieve_profile.specs.declared.extension.Extension.TheVariants.{Charsets}
use Rattle.charsets.specs.declared.charset.Charset.{Charset}
use Rattle.charsets.specs.declared.charset.Charset.TheVariants.{Utf8, Ascii, Latin1, Tabled}
use Rattle.charsets.specs.declared.charset.Codepage.{Codepage}
use Rattle.charsets.specs.declared.charset.Codepage.TheVariants.{Windows1250, Windows1251, Windows1252, Iso8859Part2, Iso8859Part15, Koi8R}
use Rattle.charsets.specs.declared.tables.TheConstants.{ISO_8859_2, ISO_8859_15, KOI8_R, WINDOWS_1250, WINDOWS_1251, WINDOWS_1252}

-- the charset with a table of that name, in any case
unfoldable pub codepage_named : List ℕ → Option Codepage
codepage_named name =
    if str_eq_ignore_ascii_case (codes "windows-1250") name then Some Windows1250
    else if str_eq_ignore_ascii_case (codes "windows-1251") name then Some Windows1251
    else if str_eq_ignore_ascii_case (codes "windows-1252") name then Some Windows1252
    else if str_eq_ignore_ascii_case (codes "iso-8859-2") name then Some Iso8859Part2
    else if str_eq_ignore_ascii_case (codes "iso-8859-15") name then Some Iso8859Part15
    else if str_eq_ignore_ascii_case (codes "koi8-r") name then Some Koi8R
    else None

-- The charset of that name, in any case, if it is known (RFC 2047, section 2). A charset that has a
-- table is known only by a profile with `charsets`.
abbrev pub charset_named : Profile → List ℕ → Option Charset
charset_named profile name =
    if str_eq_ignore_ascii_case (codes "utf-8") name then Some Utf8
    else if str_eq_ignore_ascii_case (codes "us-ascii") name then Some Ascii
    else if str_eq_ignore_ascii_case (codes "iso-8859-1") name then Some Latin1
    else if has profile Charsets then option_map Tabled (codepage_named name)
    else None

abbrev pub is_ascii : ℕ → Bool
is_ascii octet = nat_lt octet 128

-- the characters of a charset's octets from 128 on, and 0 for an octet that stands for nothing
unfoldable pub table_of : Codepage → List ℕ
table_of Windows1250 = WINDOWS_1250
table_of Windows1251 = WINDOWS_1251
table_of Windows1252 = WINDOWS_1252
table_of Iso8859Part2 = ISO_8859_2
table_of Iso8859Part15 = ISO_8859_15
table_of Koi8R = KOI8_R

-- a character, if it isn't 0
abbrev pub if_character : ℕ → Option ℕ
if_character character = if character == 0 then None else Some character

-- the character of an octet, if it stands for one; an octet of ASCII is the character of its number
abbrev pub character_at : (table : List ℕ) → ℕ → Option ℕ
character_at table octet = if is_ascii octet then Some octet else if_character (get_or table (octet - 128) 0)

-- octets, if they pass a test
abbrev pub if_right : Bool → List ℕ → Option (List ℕ)
if_right right octets = if right then Some octets else None

-- whether an octet stands for a character
abbrev pub is_character : (table : List ℕ) → ℕ → Bool
is_character table octet = is_some (character_at table octet)

-- octets in UTF-8 by a table, if each of them stands for a character
unfoldable pub tabled : (table : List ℕ) → List ℕ → Option (List ℕ)
tabled table octets = if_right (list_all (is_character table) octets) (encode_utf8_all (filter_map (character_at table) octets))

-- Octets of a charset in UTF-8, if they are of that charset. An octet of ISO 8859-1 is the
-- character of its number.
unfoldable pub in_utf8 : Charset → List ℕ → Option (List ℕ)
in_utf8 Utf8 octets = if_right (is_utf8 octets) octets
in_utf8 Ascii octets = if_right (list_all is_ascii octets) octets
in_utf8 Latin1 octets = Some (encode_utf8_all octets)
in_utf8 (Tabled codepage) octets = tabled (table_of codepage) octets

-- a text, or octets where there is none
abbrev pub or_same : (octets : List ℕ) → (text : Option (List ℕ)) → List ℕ
or_same octets None = octets
or_same octets (Some text) = text

-- Octets in UTF-8, where all are right in the charset of that name; else as they are
-- (RFC 5173, 5.2). The profile must know that charset.
unfoldable pub text_in : Profile → (charset : List ℕ) → List ℕ → List ℕ
text_in profile charset octets = or_same octets (option_and_then (λ found. in_utf8 found octets) (charset_named profile charset))
