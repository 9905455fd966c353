use Rattle.std.proofs.Common.{◌≡◌, ℕ, zero, suc, List, [], ◌∷◌, ◌++◌, ◌∙◌, Some, add-one, ap, map, rules, slice_get, sym, take}
use Rattle.sieve_variables.specs.Value.{text_value}
use Rattle.sieve_delivery.proofs.response.kept_texts.Goals as goal

module _ {X Y : Type 0} (f : X → Y) where
  one_more : (xs : List X) (i : ℕ) (x : X) → slice_get xs i ≡ Some x → map f (take (suc i) xs) ≡ map f (take i xs) ++ f x ∷ []
  one_more [] i x at = cc
  one_more (y ∷ ys) zero x at = let e : y ≡ x = cc in ap (λ z. f z ∷ []) e
  one_more (y ∷ ys) (suc i) x at = ap (λ l. f y ∷ l) (one_more ys i x at)

pub loop-i-preserved : goal.loop-i-preserved
loop-i-preserved c =
    let value = text_value c.args.values.now in let strings = c.args.strings.now in let i = c.loop-i.i in let string = c.get.result.now in
    let more : c.push.new.self ≡ c.loop-i.texts ++ value string ∷ [] = search rules in
    more ∙ ap (λ texts. texts ++ value string ∷ []) c.loop-i.invariant ∙ sym (one_more value strings i string c.get.ensures) ∙ ap (λ n. map value (take n strings)) (sym (add-one i))
