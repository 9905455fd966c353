-- Lists that are kept in order, and lists that are kept from the end.
use Rattle.std.proofs.Common.{◌≡◌, List, [], ◌∷◌, ◌++◌, map, refl, ap, ◌∙◌}
use Rattle.std.proofs.lemmas.Grind.{reverse_onto}
use mathlib.Core.List.{reverse}
use Rattle.sieve_script.specs.view.Script.{put_all, put_each}

module _ {X Y Z : Type 0} (f : X → Z) (put : Z → Y → Y) where
  put_more : (xs : List X) (x : X) (after : Y) → put_each put (map f (xs ++ x ∷ [])) after ≡ put (f x) (put_each put (map f xs) after)
  put_more [] x after = refl
  put_more (y ∷ xs) x after = put_more xs x (put (f y) after)

  turned : (xs : List X) (after : Y) → put_each put (map f (reverse xs)) after ≡ put_all put (map f xs) after
  turned [] after = refl
  turned (x ∷ xs) after = ap (λ l. put_each put (map f l) after) (reverse_onto xs x []) ∙ put_more (reverse xs) x after ∙ ap (put (f x)) (turned xs after)

  -- a list in order that is turned round is kept from the end
  pub put_turned : (xs new : List X) (after : Y) → new ≡ reverse xs → put_each put (map f new) after ≡ put_all put (map f xs) after
  put_turned xs new after is = ap (λ l. put_each put (map f l) after) is ∙ turned xs after

  last : (xs : List X) (x : X) (after : Y) → put_all put (map f (xs ++ x ∷ [])) after ≡ put_all put (map f xs) (put (f x) after)
  last [] x after = refl
  last (y ∷ xs) x after = ap (put (f y)) (last xs x after)

  -- an item that is pushed to a list in order stands after its other items
  pub put_last : (xs new : List X) (x : X) (after : Y) → new ≡ xs ++ x ∷ [] → put_all put (map f new) after ≡ put_all put (map f xs) (put (f x) after)
  put_last xs new x after is = ap (λ l. put_all put (map f l) after) is ∙ last xs x after
