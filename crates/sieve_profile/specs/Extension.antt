-- The extensions that a bench knows only where they are asked for, by their names.
use Rattle.std.specs.Prelude.{ℕ, Bool, true, false, ◌&&◌, ◌||◌, List, Option, filter, find, nat_eq, codes}
use denote.Enum.Bare.{sameb}
use lib.Pointwise.{pointwise}
use Rattle.sieve_profile.specs.Every.{every}
use Rattle.sieve_profile.specs.contracts.extension.Extension.{enum, the_type}
use Rattle.sieve_profile.specs.declared.extension.Extension.{Extension}
use Rattle.sieve_profile.specs.declared.extension.Extension.TheVariants.{AsciiNumeric, Body, Charsets, Date, Duplicate, EncodedCharacter, Envelopes, Ereject, Lines, Mailbox, Reject, Relational, SpecialUse, Subaddress, Unused, Vacation}

abbrev pub extension_name : Extension → List ℕ
extension_name Body = codes "body"
extension_name Charsets = codes "charsets"
extension_name AsciiNumeric = codes "comparator-i;ascii-numeric"
extension_name Date = codes "date"
extension_name Duplicate = codes "duplicate"
extension_name EncodedCharacter = codes "encoded-character"
extension_name Envelopes = codes "envelopes"
extension_name Ereject = codes "ereject"
extension_name Lines = codes "lines"
extension_name Mailbox = codes "mailbox"
extension_name Reject = codes "reject"
extension_name Relational = codes "relational"
extension_name SpecialUse = codes "special-use"
extension_name Subaddress = codes "subaddress"
extension_name Unused = codes "unused"
extension_name Vacation = codes "vacation"

-- all extensions, in the order of their names
abbrev pub extensions : List Extension
extensions = every enum tt

abbrev pub same_extension : Extension → Extension → Bool
same_extension a b = sameb the_type a b

-- whether octets are the extension's name, octet for octet
abbrev pub is_name_of : List ℕ → Extension → Bool
is_name_of name extension = pointwise nat_eq (extension_name extension) name

-- the extension of a name
abbrev pub extension_named : List ℕ → Option Extension
extension_named name = find (is_name_of name) extensions

-- whether Pigeonhole 0.5.19 knows the extension by default; it decodes words of all charsets
abbrev pub is_of_pigeonhole : Extension → Bool
is_of_pigeonhole Body = true
is_of_pigeonhole Charsets = true
is_of_pigeonhole AsciiNumeric = true
is_of_pigeonhole Date = true
is_of_pigeonhole Duplicate = true
is_of_pigeonhole EncodedCharacter = true
is_of_pigeonhole Envelopes = false
is_of_pigeonhole Ereject = false
is_of_pigeonhole Lines = false
is_of_pigeonhole Mailbox = true
is_of_pigeonhole Reject = true
is_of_pigeonhole Relational = true
is_of_pigeonhole SpecialUse = false
is_of_pigeonhole Subaddress = true
is_of_pigeonhole Unused = false
is_of_pigeonhole Vacation = true

-- whether a name asks for an extension: its own name, `all`, or `pigeonhole`
abbrev pub asks_for : List ℕ → Extension → Bool
asks_for name extension = is_name_of name extension || pointwise nat_eq (codes "all") name || (is_of_pigeonhole extension && pointwise nat_eq (codes "pigeonhole") name)

-- the extensions that a name asks for
abbrev pub asked_by : List ℕ → List Extension
asked_by name = filter (asks_for name) extensions
