-- Flags in a list, each at the place of a value.
use Rattle.std.proofs.Common.{◌≡◌, ℕ, zero, suc, ◌<◌, Bool, true, false, ◌||◌, nat_eq, not, List, [], ◌∷◌, length, slice_index_or, slice_set, refl, sym, ◌∙◌, arith}
use Rattle.std.specs.List.{list_all}
use Rattle.std.proofs.lemmas.Bool.Decides.{nat_tests}
use Rattle.std.proofs.lemmas.List.{get_or-set_same, get_or-set_other}

or_true : (b : Bool) → (b || true) ≡ true
or_true true = refl
or_true false = refl

or_false : (b : Bool) → (b || false) ≡ b
or_false true = refl
or_false false = refl

set_by : (flags : List Bool) (n m : ℕ) (same : Bool) → nat_eq n m ≡ same → n < length flags → slice_index_or (slice_set flags n true) m false ≡ (slice_index_or flags m false || same)
set_by flags n m true e within = grind (arith, nat_tests, get_or-set_same) ∙ sym (or_true (slice_index_or flags m false))
set_by flags n m false e within = grind (arith, nat_tests, get_or-set_other) ∙ sym (or_false (slice_index_or flags m false))

pub set_at : (flags : List Bool) (n m : ℕ) → n < length flags → slice_index_or (slice_set flags n true) m false ≡ (slice_index_or flags m false || nat_eq n m)
set_at flags n m within = set_by flags n m (nat_eq n m) refl within

pub none_at : (flags : List Bool) (m : ℕ) → list_all not flags ≡ true → slice_index_or flags m false ≡ false
none_at [] m none = refl
none_at (true ∷ flags) m none = absurd (never none)
  where
    never : false ≡ true → ⊥
    never e = cc
none_at (false ∷ flags) zero none = refl
none_at (false ∷ flags) (suc m) none = none_at flags m none
