-- How numbers are compared by their digits, with no arithmetic on the numbers.
use Rattle.std.specs.Prelude.{ℕ, ◌==◌, if◌then◌else◌, List, [], ◌∷◌, length}
use Rattle.std.specs.Cmp.Lexicographic.{slice_cmp}
use Rattle.std.specs.declared.cmp.Ordering.{Ordering}
use Rattle.std.specs.Ordering.{nat_cmp, ordering_then}
use Rattle.octets.specs.Octet.{octet_of}

-- digits without the zeros that they begin with
abbrev pub without_zeros : List ℕ → List ℕ
without_zeros [] = []
without_zeros (b ∷ rest) = if b == octet_of "0" then without_zeros rest else b ∷ rest

-- the order of digits that begin with no zero: first by how many they are, then by each in turn
abbrev pub digits_cmp : List ℕ → List ℕ → Ordering
digits_cmp a b = ordering_then (nat_cmp (length a) (length b)) (slice_cmp nat_cmp a b)
