-- Lists whose items are changed one after another, where they stand.
use Rattle.std.proofs.Common.{◌≡◌, ℕ, ◌+◌, ◌<◌, ◌≤◌, List, [], ◌∷◌, ◌++◌, map, length, get_or, take, drop, set, sym, ap, ◌∙◌, arith}
use Rattle.std.proofs.lemmas.List.{append-nil, append_assoc, at_drop_all, at_drop_more, drop-drop, drop-set-lt, length-set, map-append, take_all, take_more_set}

module _ {A : Type 0} where
  -- a list has its old items from a place on
  pub record IsLeft (i : ℕ) (now old : List A) : Type 0 where
    pub count : length now ≡ length old
    pub left : drop i now ≡ drop i old

  drop_one_more : (xs ys : List A) (i : ℕ) → drop i xs ≡ drop i ys → drop (i + 1) xs ≡ drop (i + 1) ys
  drop_one_more xs ys i left = sym (drop-drop 1 i xs) ∙ ap (drop 1) left ∙ drop-drop 1 i ys

  -- the items after a place are the old ones where the one at the place is changed
  pub left_after : (now old : List A) (i : ℕ) (new : A) → IsLeft i now old → IsLeft (i + 1) (set now i new) old
  left_after now old i new is = record {
    count = length-set now i new ∙ is.count;
    left = drop-set-lt (i + 1) now i new (omega arith) ∙ drop_one_more now old i is.left;
  }

  -- the old items from a place on are the one that is at the place and those after it
  pub was_there : (now old : List A) (i : ℕ) (x : A) → i < length old → x ≡ get_or now i x → IsLeft i now old → drop i old ≡ x ∷ drop (i + 1) old
  was_there now old i x below there is =
      let count = is.count in
      sym is.left
      ∙ at_drop_more (λ l. l) now i x (omega (arith, count, below))
      ∙ ap (λ a. a ∷ drop (i + 1) now) (sym there)
      ∙ ap (λ l. x ∷ l) (drop_one_more now old i is.left)

module _ {A B : Type 0} (see : A → B) where
  -- Where the whole is the changed items and then `P` of the others, one more item may be changed.
  -- The whole is then the changed items and `Q` of the rest.
  pub whole_more : (P Q : List A → List B) (now old : List A) (i : ℕ) (x new : A) (whole : List B) → i < length old → x ≡ get_or now i x → IsLeft i now old → P (x ∷ drop (i + 1) old) ≡ see new ∷ Q (drop (i + 1) old) → whole ≡ map see (take i now) ++ P (drop i old) → whole ≡ map see (take (i + 1) (set now i new)) ++ Q (drop (i + 1) old)
  whole_more P Q now old i x new whole below there is made so_far =
      let rest = drop (i + 1) old in let count = is.count in
      so_far
      ∙ ap (λ l. map see (take i now) ++ P l) (was_there now old i x below there is)
      ∙ ap (λ l. map see (take i now) ++ l) made
      ∙ sym (append_assoc (map see (take i now)) (see new ∷ []) (Q rest))
      ∙ ap (λ l. l ++ Q rest) (sym (ap (map see) (take_more_set now i new (omega (arith, count, below))) ∙ map-append see (take i now) (new ∷ [])))

  -- after the last item all are changed
  pub whole_end : (P : List A → List B) (now old : List A) (i : ℕ) (whole : List B) → length old ≤ i → IsLeft i now old → P [] ≡ [] → whole ≡ map see (take i now) ++ P (drop i old) → map see now ≡ whole
  whole_end P now old i whole ended is none so_far =
      let count = is.count in
      sym (so_far ∙ ap (λ l. map see (take i now) ++ l) (at_drop_all P old i ended ∙ none) ∙ append-nil (map see (take i now)) ∙ ap (map see) (take_all i now (omega (arith, count, ended))))
