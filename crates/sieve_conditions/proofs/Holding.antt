-- Keys that are looked for among flags.
use Rattle.std.proofs.Common.{◌≡◌, ℕ, Bool, true, false, ◌||◌, List, [], ◌∷◌, map, Option, None, Some, refl, sym, ap, ◌∙◌}
use Rattle.std.specs.Prelude.{if◌then◌else◌}
use Rattle.std.specs.List.{list_any}
use Rattle.std.specs.Option.{option_or}
use Rattle.match_text.specs.Order.{are_equal}
use Rattle.match_text.specs.declared.comparators.Collation.{Collation}
use Rattle.flag_lists.specs.Flags.{has_key}
use Rattle.sieve_conditions.specs.Matching.{Pair, first_match, first_some, match_by, pairs_with}
use Rattle.sieve_script.specs.declared.reading.MatchType.TheVariants.{Is}

-- a match that sets no match variables, if there is one
abbrev pub plain : Bool → Option (List (List ℕ))
plain b = if b then Some [] else None

or_plain : (s t : Bool) → option_or (plain s) (plain t) ≡ plain (s || t)
or_plain true t = refl
or_plain false t = refl

-- Each item gives a match that sets nothing if it passes a test, and else none. Then the first
-- match is there exactly if some item passes.
first_plain : {X : Type 0} (f : X → Option (List (List ℕ))) (test : X → Bool) → ((x : X) → f x ≡ plain (test x)) → (xs : List X) → first_some f xs ≡ plain (list_any test xs)
first_plain f test so [] = refl
first_plain f test so (x ∷ xs) = (λ j. option_or (so x j) (first_plain f test so xs j)) ∙ or_plain (test x) (list_any test xs)

any_map : {X Y : Type 0} (test : Y → Bool) (f : X → Y) (xs : List X) → list_any test (map f xs) ≡ list_any (λ x. test (f x)) xs
any_map test f [] = refl
any_map test f (x ∷ xs) = ap (λ b. test (f x) || b) (any_map test f xs)

-- Under `:is`, the first match of a value with keys is there exactly if some key equals the value.
-- It sets nothing.
of_one : (collation : Collation) (keys : List (List ℕ)) (value : List ℕ) → first_match (record { match_type = Is; collation = collation }) (pairs_with keys value) ≡ plain (list_any (are_equal collation value) keys)
of_one collation keys value =
    first_plain (λ (pair : Pair). match_by Is collation pair.value pair.key) (λ pair. are_equal collation pair.value pair.key) (λ pair. refl) (pairs_with keys value)
    ∙ ap plain (any_map (λ (pair : Pair). are_equal collation pair.value pair.key) (λ key. record { value = value; key = key }) keys)

-- some member passes one of two tests exactly if some passes the first or some passes the second
either : {X : Type 0} (p q : X → Bool) (xs : List X) → list_any (λ x. p x || q x) xs ≡ (list_any p xs || list_any q xs)
either p q [] = refl
either p q (x ∷ xs) = ap (λ b. (p x || q x) || b) (either p q xs) ∙ turned (p x) (q x) (list_any p xs) (list_any q xs)
  where
    turned : (a b c d : Bool) → ((a || b) || (c || d)) ≡ ((a || c) || (b || d))
    turned true b c d = refl
    turned false true true d = refl
    turned false true false d = refl
    turned false false c d = refl

none_any : {X : Type 0} (xs : List X) → list_any (λ x. false) xs ≡ false
none_any [] = refl
none_any (x ∷ xs) = none_any xs

-- some flag is equal to one of the keys exactly if some key is equal to one of the flags
turned_over : (equal : List ℕ → List ℕ → Bool) (flags keys : List (List ℕ)) → list_any (λ flag. list_any (equal flag) keys) flags ≡ list_any (has_key equal flags) keys
turned_over equal [] keys = sym (none_any keys)
turned_over equal (flag ∷ flags) keys = ap (λ b. list_any (equal flag) keys || b) (turned_over equal flags keys) ∙ sym (either (equal flag) (has_key equal flags) keys)

-- Under `:is`, the first match of flags with keys is there exactly if some key is among the flags.
-- It sets nothing.
pub found_among : (collation : Collation) (flags keys : List (List ℕ)) → first_some (λ flag. first_match (record { match_type = Is; collation = collation }) (pairs_with keys flag)) flags ≡ (if list_any (has_key (are_equal collation) flags) keys then Some [] else None)
found_among collation flags keys =
    first_plain (λ flag. first_match (record { match_type = Is; collation = collation }) (pairs_with keys flag)) (λ flag. list_any (are_equal collation flag) keys) (of_one collation keys) flags
    ∙ ap plain (turned_over (are_equal collation) flags keys)
