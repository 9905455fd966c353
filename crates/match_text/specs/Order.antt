-- How each comparator compares two whole texts (RFC 4790, section 9; RFC 5228, 2.7). It gives their
-- order, and whether they are equal. It says whether one contains the other, or matches it as a
-- pattern.
use Rattle.std.specs.Prelude.{ℕ, Bool, false, ◌*◌, ◌+◌, ◌-◌, if◌then◌else◌, List, [], ◌∷◌, map, Option, Some, None, nat_eq}
use Rattle.std.specs.Cmp.Lexicographic.{slice_cmp}
use Rattle.std.specs.Option.{option_eq}
use Rattle.std.specs.declared.cmp.Ordering.{Ordering}
use Rattle.std.specs.declared.cmp.Ordering.TheVariants.{Less, Equal, Greater}
use Rattle.std.specs.Ordering.{nat_cmp}
use Rattle.octets.specs.Octet.{is_digit, octet_of}
use Rattle.match_text.specs.declared.comparators.Collation.{Collation}
use Rattle.match_text.specs.declared.comparators.Collation.TheVariants.{Octet, Casemap, Numeric}
use Rattle.match_text.specs.Comparator.{ascii_casemap, is_part, octet, same}
use Rattle.match_text.specs.Wildcard.{matched}

-- NUMBERS (RFC 4790, 9.1.1)

-- the digits that a text begins with
abbrev pub first_digits : List ℕ → List ℕ
first_digits [] = []
first_digits (b ∷ rest) = if is_digit b then b ∷ first_digits rest else []

-- the number of digits in base 10, after digits whose number is n
abbrev pub decimal_from : ℕ → List ℕ → ℕ
decimal_from n [] = n
decimal_from n (b ∷ rest) = decimal_from (10 * n + (b - octet_of "0")) rest

-- The number of digits, of any size. No digits are infinite, which is no number.
abbrev pub number_of_digits : List ℕ → Option ℕ
number_of_digits [] = None
number_of_digits (b ∷ rest) = Some (decimal_from 0 (b ∷ rest))

-- the number that a text stands for: that of its first digits (RFC 4790, 9.1.1)
abbrev pub number_of : List ℕ → Option ℕ
number_of text = number_of_digits (first_digits text)

-- the order of numbers: infinite is greater than each number
abbrev pub number_cmp : Option ℕ → Option ℕ → Ordering
number_cmp None None = Equal
number_cmp None (Some n) = Greater
number_cmp (Some m) None = Less
number_cmp (Some m) (Some n) = nat_cmp m n

-- WHOLE TEXTS

-- The order of two texts. Under i;octet it is that of their octets (RFC 4790, 9.3.1). A front of a
-- text comes before that text. Under i;ascii-casemap it is the same with a to z changed to A to Z
-- (RFC 4790, 9.2.1). Under i;ascii-numeric it is that of their numbers (RFC 4790, 9.1.1).
abbrev pub order_of : Collation → List ℕ → List ℕ → Ordering
order_of Octet a b = slice_cmp nat_cmp a b
order_of Casemap a b = slice_cmp nat_cmp (map ascii_casemap a) (map ascii_casemap b)
order_of Numeric a b = number_cmp (number_of a) (number_of b)

-- Whether two texts are equal: `:is` (RFC 5228, 2.7.1). Under i;ascii-numeric they are if their
-- numbers are, or if both are infinite.
abbrev pub are_equal : Collation → List ℕ → List ℕ → Bool
are_equal Octet a b = same octet a b
are_equal Casemap a b = same ascii_casemap a b
are_equal Numeric a b = option_eq nat_eq (number_of a) (number_of b)

-- Whether a value contains a key: `:contains` (RFC 5228, 2.7.1). Under i;ascii-numeric none does,
-- as it has no substrings (RFC 4790, 9.1.1).
abbrev pub contains_under : Collation → (value key : List ℕ) → Bool
contains_under Octet value key = is_part octet value key
contains_under Casemap value key = is_part ascii_casemap value key
contains_under Numeric value key = false

-- The texts that the wildcards of a pattern take of a value, as `matched` lists them: `:matches`
-- (RFC 5228, 2.7.1). Nothing matches under i;ascii-numeric, which has no substrings (RFC 4790,
-- 9.1.1).
abbrev pub matched_under : Collation → (value pattern : List ℕ) → Option (List (List ℕ))
matched_under Octet value pattern = matched octet value pattern
matched_under Casemap value pattern = matched ascii_casemap value pattern
matched_under Numeric value pattern = None
