-- Texts that are copied one by one.
use Rattle.std.proofs.Common.{◌≡◌, ℕ, ◌+◌, ◌<◌, List, [], ◌∷◌, ◌++◌, length, drop, get_or, sym, ap, ◌∙◌, add-one}
use Rattle.std.proofs.Math.Seq.{drop-cons}
use Rattle.std.proofs.lemmas.Option.{unwrap_or-slice_get}
use Rattle.std.specs.Prelude.{slice_get, unwrap_or}
use Rattle.std.proofs.lemmas.List.{append_assoc}

-- The item at a place is put after the items copied so far. Then they and the items after that
-- place are all.
pub one_further : {X : Type 0} (done all : List X) (k : ℕ) (x d : X) → done ++ drop k all ≡ all → k < length all → x ≡ unwrap_or (slice_get all k) d → (done ++ x ∷ []) ++ drop (k + 1) all ≡ all
one_further done all k x d so below is =
    append_assoc done (x ∷ []) (drop (k + 1) all)
    ∙ ap (λ y. done ++ y ∷ drop (k + 1) all) (is ∙ unwrap_or-slice_get all k d)
    ∙ ap (λ n. done ++ get_or all k d ∷ drop n all) (add-one k)
    ∙ ap (λ ys. done ++ ys) (sym (drop-cons all k d below))
    ∙ so
