-- Octets by their characters of ASCII, classes of octets (RFC 5234, appendix B.1; RFC 5228, 8.1),
-- and lists of octets.
use Prim.Native.Char.{Char, code}
use lib.Pointwise.{pointwise}
use Rattle.std.specs.Prelude.{ℕ, Bool, ◌&&◌, ◌||◌, ◌==◌, nat_eq, nat_le, nat_lt, List, length}
use Rattle.std.specs.List.{list_any}

-- the octet of a character of ASCII
abbrev pub octet_of : Char → ℕ
octet_of character = code character

-- whether an octet is one of those from a low one to a high one
abbrev pub is_between : ℕ → ℕ → ℕ → Bool
is_between low high octet = nat_le low octet && nat_le octet high

-- a digit: DIGIT
abbrev pub is_digit : ℕ → Bool
is_digit octet = is_between (octet_of "0") (octet_of "9") octet

-- a space or a tab: WSP
abbrev pub is_blank : ℕ → Bool
is_blank octet = octet == octet_of " " || octet == octet_of "\t"

-- white space: a space, a tab, a CR or an LF (RFC 5228, 2.2 and 8.1; RFC 5322, 3.2.2)
abbrev pub is_white : ℕ → Bool
is_white octet = octet == octet_of " " || (octet == octet_of "\t" || (octet == octet_of "\r" || (octet == octet_of "\n")))

-- a visible character of ASCII: VCHAR
abbrev pub is_visible : ℕ → Bool
is_visible octet = is_between (octet_of "!") (octet_of "~") octet

-- a visible character of ASCII or a space: VCHAR, SP
abbrev pub is_printable : ℕ → Bool
is_printable octet = is_between (octet_of " ") (octet_of "~") octet

-- a letter or `_`, with which an identifier begins (RFC 5228, 8.1)
abbrev pub begins_name : ℕ → Bool
begins_name octet = is_between (octet_of "a") (octet_of "z") octet || (is_between (octet_of "A") (octet_of "Z") octet || (octet == octet_of "_"))

-- a letter, a digit or `_`, with which an identifier goes on (RFC 5228, 8.1)
abbrev pub is_name_octet : ℕ → Bool
is_name_octet octet = begins_name octet || is_digit octet

-- LISTS OF OCTETS

-- whether there are octets
abbrev pub is_filled : List ℕ → Bool
is_filled octets = nat_lt 0 (length octets)

-- whether octets are among others
abbrev pub is_among : List ℕ → List (List ℕ) → Bool
is_among octets others = list_any (pointwise nat_eq octets) others
