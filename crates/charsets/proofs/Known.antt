-- Which charsets are known, and octets of a charset in UTF-8.
use Rattle.std.proofs.Common.{◌≡◌, ℕ, suc, ◌<◌, Bool, true, false, ◌||◌, cond, List, [], ◌∷◌, get_or, zero, Option, None, Some, is_some, codes, encode_utf8_all, nat_lt, refl, sym, ◌∙◌, ap, ◌-◌, ◌==◌, arith}
use Rattle.std.specs.Option.{option_map}
use Rattle.std.specs.List.{cons_option, filter_map, list_all, list_any}
use Rattle.std.specs.Str.{IsUtf8, is_utf8, str_eq_ignore_ascii_case}
use Rattle.std.proofs.Math.Utf8.{low_scalar, scalar, scalars}
use Rattle.std.proofs.lemmas.Bool.Decides.{nat_tests}
use Rattle.std.proofs.lemmas.Str.{IsUtf8-from_ascii, is_utf8-from_IsUtf8}
use Rattle.base64.specs.GeneralPurpose.{IsBytes}
use Rattle.octets.proofs.Both.{both, first_of_both, last_of_both, some_step}
use Rattle.sieve_profile.specs.Profile.{Profile, empty_profile, has}
use Rattle.sieve_profile.specs.declared.extension.Extension.TheVariants.{Charsets}
use Rattle.charsets.specs.Charset.{character_at, charset_named, codepage_named, if_character, if_right, in_utf8, is_ascii, is_character, table_of, tabled}
use Rattle.charsets.specs.declared.charset.Charset.{Charset}
use Rattle.charsets.specs.declared.charset.Charset.TheVariants.{Utf8, Ascii, Latin1, Tabled}
use Rattle.charsets.specs.declared.charset.Codepage.{Codepage}
use Rattle.charsets.specs.declared.charset.Codepage.TheVariants.{Windows1250, Windows1251, Windows1252, Iso8859Part2, Iso8859Part15, Koi8R}

-- charsets that are always known

three_step : (a b c d : Bool) (found : Option Charset) → d ≡ false → is_some (cond a (Some Utf8) (cond b (Some Ascii) (cond c (Some Latin1) (cond d found None)))) ≡ (a || (b || (c || false)))
three_step true b c d found lacks = refl
three_step false true c d found lacks = refl
three_step false false true d found lacks = refl
three_step false false false d found lacks = ap (λ d. is_some (cond d found None)) lacks

pub three_known : (profile : Profile) (name : List ℕ) → has profile Charsets ≡ false → is_some (charset_named profile name) ≡ list_any (λ known. str_eq_ignore_ascii_case known name) (codes "utf-8" ∷ codes "us-ascii" ∷ codes "iso-8859-1" ∷ [])
three_known profile name lacks =
    three_step (str_eq_ignore_ascii_case (codes "utf-8") name) (str_eq_ignore_ascii_case (codes "us-ascii") name) (str_eq_ignore_ascii_case (codes "iso-8859-1") name) (has profile Charsets)
    (option_map Tabled (codepage_named name)) lacks

-- charsets that have tables

is_some_tabled : (found : Option Codepage) → is_some (option_map Tabled found) ≡ is_some found
is_some_tabled None = refl
is_some_tabled (Some codepage) = refl

tables_known : (name : List ℕ) → is_some (codepage_named name) ≡ list_any (λ known. str_eq_ignore_ascii_case known name) (codes "windows-1250" ∷ codes "windows-1251" ∷ codes "windows-1252" ∷ codes "iso-8859-2" ∷ codes "iso-8859-15" ∷ codes "koi8-r" ∷ [])
unfolding codepage_named
tables_known name =
    let a = str_eq_ignore_ascii_case (codes "windows-1250") name in
    let b = str_eq_ignore_ascii_case (codes "windows-1251") name in
    let c = str_eq_ignore_ascii_case (codes "windows-1252") name in
    let d = str_eq_ignore_ascii_case (codes "iso-8859-2") name in
    let e = str_eq_ignore_ascii_case (codes "iso-8859-15") name in
    let f = str_eq_ignore_ascii_case (codes "koi8-r") name in
    some_step a Windows1250 (cond b (Some Windows1251) (cond c (Some Windows1252) (cond d (Some Iso8859Part2) (cond e (Some Iso8859Part15) (cond f (Some Koi8R) None))))) ∙ ap (λ more. a || more) (some_step b Windows1251 (cond c (Some Windows1252) (cond d (Some Iso8859Part2) (cond e (Some Iso8859Part15) (cond f (Some Koi8R) None)))) ∙ ap (λ more. b || more) (some_step c Windows1252 (cond d (Some Iso8859Part2) (cond e (Some Iso8859Part15) (cond f (Some Koi8R) None))) ∙ ap (λ more. c || more) (some_step d Iso8859Part2 (cond e (Some Iso8859Part15) (cond f (Some Koi8R) None)) ∙ ap (λ more. d || more) (some_step e Iso8859Part15 (cond f (Some Koi8R) None) ∙ ap (λ more. e || more) (some_step f Koi8R None)))))

asked_step : (has_charsets : Bool) (found : Option Charset) → has_charsets ≡ true → is_some (cond has_charsets found None) ≡ is_some found
asked_step true found asked = refl
asked_step false found asked = absurd (let e : false ≡ true = asked in cc)

pub nine_known : (profile : Profile) (name : List ℕ) → has profile Charsets ≡ true → is_some (charset_named profile name)
    ≡ list_any (λ known. str_eq_ignore_ascii_case known name) (codes "utf-8" ∷ codes "us-ascii" ∷ codes "iso-8859-1" ∷ codes "windows-1250" ∷ codes "windows-1251" ∷ codes "windows-1252" ∷ codes "iso-8859-2" ∷ codes "iso-8859-15" ∷ codes "koi8-r" ∷ [])
nine_known profile name asked =
    let utf8 = str_eq_ignore_ascii_case (codes "utf-8") name in
    let ascii = str_eq_ignore_ascii_case (codes "us-ascii") name in
    let latin = str_eq_ignore_ascii_case (codes "iso-8859-1") name in
    let tables = cond (has profile Charsets) (option_map Tabled (codepage_named name)) None in
    some_step utf8 Utf8 (cond ascii (Some Ascii) (cond latin (Some Latin1) tables))
    ∙ ap (λ more. utf8 || more) (some_step ascii Ascii (cond latin (Some Latin1) tables)
    ∙ ap (λ more. ascii || more) (some_step latin Latin1 tables
    ∙ ap (λ more. latin || more) (asked_step (has profile Charsets) (option_map Tabled (codepage_named name)) asked ∙ is_some_tabled (codepage_named name) ∙ tables_known name)))

pub same_named : (profile : Profile) (name : List ℕ) → has profile Charsets ≡ false → charset_named profile name ≡ charset_named empty_profile name
same_named profile name lacks =
    ap (λ d. cond (str_eq_ignore_ascii_case (codes "utf-8") name) (Some Utf8)
    (cond (str_eq_ignore_ascii_case (codes "us-ascii") name) (Some Ascii)
    (cond (str_eq_ignore_ascii_case (codes "iso-8859-1") name) (Some Latin1)
    (cond d (option_map Tabled (codepage_named name)) None)))) lacks

-- octets in UTF-8

-- where all numbers are below a limit, so is each
pub below_at : (limit : ℕ) (numbers : List ℕ) (i : ℕ) → 0 < limit → list_all (λ n. nat_lt n limit) numbers ≡ true → get_or numbers i 0 < limit
below_at limit [] i some are = some
below_at limit (n ∷ numbers) zero some are = grind (arith, nat_tests, first_of_both (nat_lt n limit) (list_all (λ n. nat_lt n limit) numbers) are)
below_at limit (n ∷ numbers) (suc i) some are = below_at limit numbers i some (last_of_both (nat_lt n limit) (list_all (λ n. nat_lt n limit) numbers) are)

abbrev is_low : ℕ → Bool
is_low character = nat_lt character 55296

-- no character of a table is a surrogate, or lies after them
table_low : (codepage : Codepage) → list_all is_low (table_of codepage) ≡ true
unfolding table_of
table_low Windows1250 = refl
table_low Windows1251 = refl
table_low Windows1252 = refl
table_low Iso8859Part2 = refl
table_low Iso8859Part15 = refl
table_low Koi8R = refl

filled_low : (b : Bool) (entry character : ℕ) → entry < 55296 → cond b None (Some entry) ≡ Some character → character < 55296
filled_low true entry character low is = absurd cc
filled_low false entry character low is =
    let same : entry ≡ character = cc in
    omega arith

octet_low : (ascii : Bool) (octet entry character : ℕ) → is_ascii octet ≡ ascii → entry < 55296 → cond ascii (Some octet) (if_character entry) ≡ Some character → character < 55296
octet_low true octet entry character ascii low is =
    let same : octet ≡ character = cc in
    let within : octet < 128 = grind (arith, nat_tests, ascii) in
    omega arith
octet_low false octet entry character ascii low is = filled_low (entry == 0) entry character low is

character_low : (table : List ℕ) (octet character : ℕ) → list_all is_low table ≡ true → character_at table octet ≡ Some character → character < 55296
character_low table octet character low is =
    octet_low (is_ascii octet) octet (get_or table (octet - 128) 0) character refl (below_at 55296 table (octet - 128) (omega arith) low) is

characters_step : (table : List ℕ) (octet : ℕ) (found : Option ℕ) (characters : List ℕ) → list_all is_low table ≡ true → character_at table octet ≡ found → scalars characters ≡ true → scalars (cons_option found characters) ≡ true
characters_step table octet None characters low is after = after
characters_step table octet (Some character) characters low is after =
    both (scalar character) (scalars characters) (low_scalar character (character_low table octet character low is)) after

characters_are : (table octets : List ℕ) → list_all is_low table ≡ true → scalars (filter_map (character_at table) octets) ≡ true
characters_are table [] low = refl
characters_are table (octet ∷ octets) low =
    characters_step table octet (character_at table octet) (filter_map (character_at table) octets) low refl (characters_are table octets low)

right_step : (right : Bool) (octets text : List ℕ) → if_right right octets ≡ Some text → (right ≡ true) × (octets ≡ text)
right_step true octets text is = (refl, cc)
right_step false octets text is = absurd cc

said : (octets text : List ℕ) → octets ≡ text → IsUtf8 octets → is_utf8 text ≡ true
said octets text same is = ap is_utf8 (sym same) ∙ is_utf8-from_IsUtf8 octets is

latin_are : (octets : List ℕ) → IsBytes octets → scalars octets ≡ true
latin_are [] bytes = refl
latin_are (octet ∷ octets) bytes =
    let within : octet < 256 = bytes 0 in
    both (scalar octet) (scalars octets) (low_scalar octet (omega arith)) (latin_are octets (λ i. bytes (suc i)))

pub charset_utf8 : (charset : Charset) (octets text : List ℕ) → IsBytes octets → in_utf8 charset octets ≡ Some text → is_utf8 text ≡ true
unfolding in_utf8 tabled
charset_utf8 Utf8 octets text bytes is =
    let right = right_step (is_utf8 octets) octets text is in
    ap is_utf8 (sym right.1) ∙ right.0
charset_utf8 Ascii octets text bytes is =
    let right = right_step (list_all is_ascii octets) octets text is in
    said octets text right.1 (IsUtf8-from_ascii octets (λ i. below_at 128 octets i (omega arith) right.0))
charset_utf8 Latin1 octets text bytes is =
    let same : encode_utf8_all octets ≡ text = cc in
    said (encode_utf8_all octets) text same (octets, (latin_are octets bytes, refl))
charset_utf8 (Tabled codepage) octets text bytes is =
    let table = table_of codepage in
    let characters = filter_map (character_at table) octets in
    let right = right_step (list_all (is_character table) octets) (encode_utf8_all characters) text is in
    said (encode_utf8_all characters) text right.1 (characters, (characters_are table octets (table_low codepage), refl))
