-- The match values that keys give in turn, whole or in pieces.
use Rattle.std.proofs.Common.{◌≡◌, ℕ, zero, suc, ◌+◌, ◌<◌, ◌≤◌, min, arith, Bool, true, false, ◌||◌, ◌==◌, List, [], ◌∷◌, map, length, take, drop, Option, None, Some, refl, sym, ap, ◌∙◌, ⊎_elim, add-one}
use Rattle.std.proofs.lemmas.Bool.{cases_lt, eqb-true, false≢true}
use Rattle.std.proofs.lemmas.List.{drop_all, length-map, take_all}
use Rattle.std.specs.List.{flat_map, list_any, slice_get}
use Rattle.std.specs.Option.{option_or}
use Rattle.flag_lists.specs.Flags.{filled_pieces, flag_keys}
use Rattle.sieve_script.specs.declared.reading.Comparison.{Comparison}
use Rattle.sieve_conditions.specs.Matching.{Pair, first_match, first_some, match_of, pairs_with}
use Rattle.sieve_conditions.specs.declared.flag_values.Best.{Best}
use Rattle.sieve_conditions.specs.view.FlagTests.{best_of, flags_found}
use Rattle.sieve_conditions.proofs.Searching.{first_flat, first_map, first_same, or_in_turn}

-- the first key of some that a value matches
first_of_pairs : (comparison : Comparison) (value : List ℕ) (keys : List (List ℕ)) → first_match comparison (pairs_with keys value) ≡ first_some (match_of comparison value) keys
first_of_pairs comparison value keys = first_map (λ (pair : Pair). match_of comparison pair.value pair.key) (λ key. record { value = value; key = key }) keys

-- the first key gives the match values that the first of the strings gives that stand for keys
pub first_of_keys : {X : Type 0} (comparison : Comparison) (value : List ℕ) (g : List ℕ → List (List ℕ)) (h : X → List ℕ) (keys : List X)
    → first_match comparison (pairs_with (flat_map g (map h keys)) value) ≡ first_some (λ key. first_match comparison (pairs_with (g (h key)) value)) keys
first_of_keys comparison value g h keys =
    first_of_pairs comparison value (flat_map g (map h keys))
    ∙ first_flat (match_of comparison value) g (map h keys)
    ∙ first_map (λ text. first_some (match_of comparison value) (g text)) h keys
    ∙ first_same (λ key. first_some (match_of comparison value) (g (h key))) (λ key. first_match comparison (pairs_with (g (h key)) value)) (λ key. sym (first_of_pairs comparison value (g (h key)))) keys

-- FLAGS

none_parts : {Y : Type 0} (a b : Option Y) → option_or a b ≡ None → (a ≡ None) × (b ≡ None)
none_parts None b is = (refl, is)
none_parts (Some y) b is = cc

none_further : {X Y : Type 0} (f : X → Option Y) (xs : List X) (i : ℕ) → first_some f (take i xs) ≡ None → slice_get (map f xs) i ≡ Some None → first_some f (take (suc i) xs) ≡ None
none_further f [] i none at = cc
none_further f (x ∷ xs) zero none at = let e : f x ≡ None = cc in ap (λ a. option_or a None) e
none_further f (x ∷ xs) (suc i) none at =
    let parts = none_parts (f x) (first_some f (take i xs)) none in
    ap (λ a. option_or a (first_some f (take (suc i) xs))) parts.0 ∙ none_further f xs i parts.1 at

-- if no flag so far gives something, nor the next one does, none up to it does
pub none_so_far : {X Y : Type 0} (f : X → Option Y) (xs : List X) (i : ℕ) → first_some f (take i xs) ≡ None → slice_get (map f xs) i ≡ Some None → first_some f (take (i + 1) xs) ≡ None
none_so_far f xs i none at = ap (λ n. first_some f (take n xs)) (add-one i) ∙ none_further f xs i none at

pub take_min : {X : Type 0} (n : ℕ) (xs : List X) → take (min n (length xs)) xs ≡ take n xs
take_min n xs = ⊎_elim
    (λ (less : n < length xs). let e : min n (length xs) ≡ n = omega arith in ap (λ k. take k xs) e)
    (λ (most : length xs ≤ n). let e : min n (length xs) ≡ length xs = omega arith in ap (λ k. take k xs) e ∙ take_all (length xs) xs (omega arith) ∙ sym (take_all n xs most))
    (cases_lt n (length xs))

or_found : {Y : Type 0} (a c : Option Y) (v : Y) → option_or (option_or a (Some v)) c ≡ option_or a (Some v)
or_found None c v = refl
or_found (Some y) c v = refl

module _ (comparison : Comparison) (key : List ℕ) where
  passed_flags : (rest flags : List (List ℕ)) → first_some (λ flag. match_of comparison flag key) flags ≡ None → flags_found comparison flags (key ∷ rest) ≡ flags_found comparison flags rest
  passed_flags rest [] none = refl
  passed_flags rest (x ∷ xs) none =
      let parts = none_parts (match_of comparison x key) (first_some (λ flag. match_of comparison flag key) xs) none in
      ap (λ a. option_or (option_or a (first_match comparison (pairs_with rest x))) (flags_found comparison xs (key ∷ rest))) parts.0
      ∙ ap (option_or (first_match comparison (pairs_with rest x))) (passed_flags rest xs parts.1)

  found_flag : (rest flags : List (List ℕ)) (i n : ℕ) (v : List (List ℕ)) → first_some (λ flag. match_of comparison flag key) (take i flags) ≡ None
      → slice_get (map (λ flag. match_of comparison flag key) flags) i ≡ Some (Some v) → i < n → flags_found comparison (take n flags) (key ∷ rest) ≡ option_or (flags_found comparison (take i flags) rest) (Some v)
  found_flag rest [] i n v none at below = cc
  found_flag rest (x ∷ xs) i zero v none at below = absurd (omega (arith, below))
  found_flag rest (x ∷ xs) zero (suc n) v none at below =
      let e : match_of comparison x key ≡ Some v = cc in
      ap (λ a. option_or (option_or a (first_match comparison (pairs_with rest x))) (flags_found comparison (take n xs) (key ∷ rest))) e
  found_flag rest (x ∷ xs) (suc i) (suc n) v none at below =
      let parts = none_parts (match_of comparison x key) (first_some (λ flag. match_of comparison flag key) (take i xs)) none in
      ap (λ a. option_or (option_or a (first_match comparison (pairs_with rest x))) (flags_found comparison (take n xs) (key ∷ rest))) parts.0
      ∙ ap (option_or (first_match comparison (pairs_with rest x))) (found_flag rest xs i n v parts.1 at (omega (arith, below)))
      ∙ sym (or_in_turn (first_match comparison (pairs_with rest x)) (flags_found comparison (take i xs) rest) (Some v))

  -- after a key that a flag before the best matches, that flag is the best
  pub better_found : (flags : List (List ℕ)) (best : Best) (i : ℕ) (v : List (List ℕ)) → first_some (λ flag. match_of comparison flag key) (take i flags) ≡ None
      → slice_get (map (λ flag. match_of comparison flag key) flags) i ≡ Some (Some v) → i < best.before → (rest : List (List ℕ)) → option_or (flags_found comparison (take i flags) rest) (Some v) ≡ best_of comparison flags best (key ∷ rest)
  better_found flags best i v none at below rest =
      sym (ap (λ o. option_or o best.found) (found_flag rest flags i best.before v none at below) ∙ or_found (flags_found comparison (take i flags) rest) best.found v)

  -- after a key that none of these flags matches, the best is what it was
  pub best_stays : (flags : List (List ℕ)) (best : Best) → first_some (λ flag. match_of comparison flag key) (take best.before flags) ≡ None → (rest : List (List ℕ)) → best_of comparison flags best rest ≡ best_of comparison flags best (key ∷ rest)
  best_stays flags best none rest = sym (ap (λ o. option_or o best.found) (passed_flags rest (take best.before flags) none))

no_keys : (comparison : Comparison) (flags : List (List ℕ)) → flags_found comparison flags [] ≡ None
no_keys comparison [] = refl
no_keys comparison (x ∷ xs) = no_keys comparison xs

-- if no keys are left, the best is the match that was found
pub best_at_end : (comparison : Comparison) (flags : List (List ℕ)) (best : Best) → best_of comparison flags best [] ≡ best.found
best_at_end comparison flags best = ap (λ o. option_or o best.found) (no_keys comparison (take best.before flags))

-- PIECES

-- the empty key stands for itself
pub keys_of_empty : (key : List ℕ) → (length key == 0) ≡ true → flag_keys key ≡ key ∷ []
unfolding flag_keys
keys_of_empty [] is = refl
keys_of_empty (b ∷ rest) is = let e = eqb-true (suc (length rest)) 0 is in absurd (omega (arith, e))

-- another key stands for its pieces
pub keys_of_filled : (key : List ℕ) → (length key == 0) ≡ false → filled_pieces key ≡ flag_keys key
unfolding flag_keys
keys_of_filled [] is = absurd (false≢true (sym is))
keys_of_filled (b ∷ rest) is = refl

pub any_alone : {X : Type 0} (p : X → Bool) (x : X) → p x ≡ list_any p (x ∷ [])
any_alone p x = by (p x)
  where
    by : (b : Bool) → b ≡ (b || false)
    by true = refl
    by false = refl

-- after all keys none are left
pub no_more_keys : {X : Type 0} (g : List ℕ → List (List ℕ)) (h : X → List ℕ) (keys : List X) (i : ℕ) → length keys ≤ i → [] ≡ flat_map g (drop i (map h keys))
no_more_keys g h keys i after = sym (ap (flat_map g) (drop_all i (map h keys) (omega (arith, after, length-map keys h))))
