-- Tests that hold together, and tests one of which holds.
use Rattle.std.proofs.Common.{◌≡◌, Bool, true, false, ◌&&◌, ◌||◌, cond, List, [], ◌∷◌, Option, Some, find, is_some, refl, ap, ◌∙◌}
use Rattle.std.specs.List.{list_any}

pub both : (a b : Bool) → a ≡ true → b ≡ true → (a && b) ≡ true
both a b is_a is_b = rw (is_a, is_b) refl

pub first_of_both : (a b : Bool) → (a && b) ≡ true → a ≡ true
first_of_both true b is = refl
first_of_both false b is = is

pub last_of_both : (a b : Bool) → (a && b) ≡ true → b ≡ true
last_of_both true b is = is
last_of_both false b is = absurd cc

-- a chain of alternatives gives something if the first does, or if the rest do
pub some_step : {X : Type 0} (a : Bool) (x : X) (rest : Option X) → is_some (cond a (Some x) rest) ≡ (a || is_some rest)
some_step true x rest = refl
some_step false x rest = refl

-- an item is found if one passes the test
pub is_some_find : {X : Type 0} (test : X → Bool) (xs : List X) → is_some (find test xs) ≡ list_any test xs
is_some_find test [] = refl
is_some_find test (x ∷ xs) = some_step (test x) x (find test xs) ∙ ap (λ more. test x || more) (is_some_find test xs)
