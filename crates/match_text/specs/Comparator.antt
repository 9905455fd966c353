-- When two texts are equal under a comparator, and when one contains the other (RFC 4790, 4.2; RFC
-- 5228, 2.7). i;octet and i;ascii-casemap are known by their folds. Two octets are equal if their
-- folds are equal. Order says how all comparators compare whole texts.
use Rattle.std.specs.Prelude.{◌≡◌, ℕ, Bool, ◌-◌, ◌<◌, ◌≤◌, ◌||◌, ◌==◌, if◌then◌else◌, List, [], ◌∷◌, length, take, slice_index, slice_range, Option, Some, None, nat_eq, codes}
use lib.Pointwise.{pointwise}
use Rattle.match_text.specs.declared.comparators.Collation.{Collation}
use Rattle.match_text.specs.declared.comparators.Collation.TheVariants.{Octet, Casemap, Numeric}
use Rattle.octets.specs.Octet.{is_between, octet_of}

-- i;octet: each octet is equal to itself alone (RFC 4790, 9.3.1)
abbrev pub octet : ℕ → ℕ
octet b = b

-- i;ascii-casemap: the lower-case letters are changed to upper case (RFC 4790, 9.2.1)
abbrev pub ascii_casemap : ℕ → ℕ
ascii_casemap b = if is_between (octet_of "a") (octet_of "z") b then b - (octet_of "a" - octet_of "A") else b

-- the comparator of that name, octet for octet (RFC 4790, section 9)
abbrev pub collation_named : List ℕ → Option Collation
collation_named name =
    if pointwise nat_eq (codes "i;octet") name then Some Octet else
    if pointwise nat_eq (codes "i;ascii-casemap") name then Some Casemap else
    if pointwise nat_eq (codes "i;ascii-numeric") name then Some Numeric else None

-- equal lengths, and equal octets after folding (RFC 5228, 2.7.1)
pub record Same (fold : ℕ → ℕ) (a b : List ℕ) : Type 0 where
  pub equal_lengths : length a ≡ length b
  pub equal_octets : (i : ℕ) → i < length a → fold (slice_index a i) ≡ fold (slice_index b i)

-- some slice of the value is the same as the key (RFC 5228, 2.7.1)
pub record IsPart (fold : ℕ → ℕ) (value key : List ℕ) : Type 0 where
  pub start : ℕ
  pub end : ℕ
  pub ordered : start ≤ end
  pub within : end ≤ length value
  pub same : Same fold (slice_range value start end) key

-- whether two octet strings are the same: `:is` (RFC 5228, 2.7.1)
abbrev pub same : (ℕ → ℕ) → List ℕ → List ℕ → Bool
same fold a b = pointwise (λ x y. fold x == fold y) a b

-- whether some slice of the value is the same as the key: `:contains` (RFC 5228, 2.7.1)
abbrev pub is_part : (ℕ → ℕ) → List ℕ → List ℕ → Bool
is_part fold [] key = same fold [] key
is_part fold (x ∷ rest) key = same fold (take (length key) (x ∷ rest)) key || is_part fold rest key
