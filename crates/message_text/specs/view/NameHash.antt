-- A number of 32 bits for the name of a field. Names that differ in the case of ASCII alone have
-- one number.
use Rattle.std.specs.Prelude.{ℕ, ◌+◌, ◌*◌, ◌%◌, ◌^◌, List, map}
use Rattle.std.specs.List.{fold}
use Rattle.match_text.specs.Comparator.{ascii_casemap}

-- the number with one more octet
abbrev pub with_octet : ℕ → ℕ → ℕ
with_octet hash octet = ((hash * 31) % 2 ^ 32 + octet) % 2 ^ 32

unfoldable pub name_hash : List ℕ → ℕ
name_hash name = fold with_octet 0 (map ascii_casemap name)
