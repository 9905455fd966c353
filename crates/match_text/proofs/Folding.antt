-- Folded texts compared octet by octet.
use Rattle.std.proofs.Common.{◌≡◌, ℕ, ◌&&◌, ◌||◌, ◌==◌, List, [], ◌∷◌, map, length, take, refl, ap, ◌∙◌, rules}
use Rattle.std.proofs.lemmas.List.{length-map, take-map}
use Rattle.match_text.specs.Comparator.{ascii_casemap, is_part, octet, same}

module _ (fold : ℕ → ℕ) where
  -- texts are equal under a fold exactly if the folded texts are equal octet for octet
  pub folded_same : (a b : List ℕ) → same octet (map fold a) (map fold b) ≡ same fold a b
  folded_same [] [] = refl
  folded_same [] (y ∷ b) = refl
  folded_same (x ∷ a) [] = refl
  folded_same (x ∷ a) (y ∷ b) = ap (λ rest. (fold x == fold y) && rest) (folded_same a b)

  front_same : (xs key : List ℕ) → same octet (take (length (map fold key)) (map fold xs)) (map fold key) ≡ same fold (take (length key) xs) key
  front_same xs key =
      ap (λ n. same octet (take n (map fold xs)) (map fold key)) (length-map key fold)
      ∙ ap (λ l. same octet l (map fold key)) (take-map fold (length key) xs)
      ∙ folded_same (take (length key) xs) key

  -- a key is part of a value under a fold exactly if this is so of the folded texts
  pub folded_part : (value key : List ℕ) → is_part octet (map fold value) (map fold key) ≡ is_part fold value key
  folded_part [] key = folded_same [] key
  folded_part (x ∷ rest) key =
      ap (λ b. b || is_part octet (map fold rest) (map fold key)) (front_same (x ∷ rest) key)
      ∙ ap (λ b. same fold (take (length key) (x ∷ rest)) key || b) (folded_part rest key)

settles : (b : ℕ) → ascii_casemap (ascii_casemap b) ≡ ascii_casemap b
settles b = search rules

-- folding folded octets again leaves them as they are
pub folded_twice : (xs : List ℕ) → map ascii_casemap (map ascii_casemap xs) ≡ map ascii_casemap xs
folded_twice [] = refl
folded_twice (x ∷ xs) = ap (λ y. y ∷ map ascii_casemap (map ascii_casemap xs)) (settles x) ∙ ap (λ rest. ascii_casemap x ∷ rest) (folded_twice xs)
