-- Lists cut at the first element that passes a test.
use Rattle.std.proofs.Common.{◌≡◌, ℕ, ◌<◌, ◌≤◌, Bool, true, false, cond, ltb, List, [], ◌∷◌, length, Option, None, Some, refl, arith}
use Rattle.std.specs.List.{before_first, position_or_len, list_any}
use Rattle.std.proofs.lemmas.Bool.{ltb-true, ltb-false}
use Rattle.std.proofs.lemmas.List.{take_all}
use Rattle.std.proofs.lemmas.List.Folds.{list_any_at, list_any_none}
use Rattle.std.proofs.lemmas.List.Sums.{fails_before_first, passes_at_first}

-- the place that `position` finds
abbrev pub first_place : {X : Type 0} (p : X → Bool) (xs : List X) → Option ℕ
first_place p xs = cond (ltb (position_or_len p xs) (length xs)) (Some (position_or_len p xs)) None

place_by : (within : Bool) (n k : ℕ) → Some k ≡ cond within (Some n) None → (within ≡ true) × (n ≡ k)
place_by true n k is = (refl, cc)
place_by false n k is = absurd cc

none_by : (within : Bool) (n : ℕ) → None ≡ cond within (Some n) None → within ≡ false
none_by true n is = absurd cc
none_by false n is = refl

-- the place that is found is the first one that passes
pub place_is : {X : Type 0} (p : X → Bool) (xs : List X) (k : ℕ) → Some k ≡ first_place p xs → position_or_len p xs ≡ k
place_is p xs k is = (place_by _ _ k is).1

pub place_within : {X : Type 0} (p : X → Bool) (xs : List X) (k : ℕ) → Some k ≡ first_place p xs → position_or_len p xs < length xs
place_within p xs k is = ltb-true _ _ (place_by _ _ k is).0

pub some_passes : {X : Type 0} (p : X → Bool) (xs : List X) (k : ℕ) → Some k ≡ first_place p xs → list_any p xs ≡ true
some_passes p [] k is = absurd cc
some_passes p (x ∷ xs) k is =
    let within = place_within p (x ∷ xs) k is in
    list_any_at p (x ∷ xs) (position_or_len p (x ∷ xs)) x within (passes_at_first p (x ∷ xs) x within)

-- if no place is found, no element passes the test
pub none_before : {X : Type 0} (p : X → Bool) (xs : List X) → None ≡ first_place p xs → length xs ≤ position_or_len p xs
none_before p xs is = ltb-false _ _ (none_by _ _ is)

pub none_passes : {X : Type 0} (p : X → Bool) (xs : List X) → None ≡ first_place p xs → list_any p xs ≡ false
none_passes p xs is =
    let past = none_before p xs is in
    list_any_none p xs (λ k d below. fails_before_first p xs k d (omega arith))

pub before_first-none : {X : Type 0} (p : X → Bool) (xs : List X) → None ≡ first_place p xs → before_first p xs ≡ xs
before_first-none p xs is = take_all (position_or_len p xs) xs (none_before p xs is)
