use Rattle.std.proofs.Common.{◌≡◌, ◌∙◌, ℕ, List, [], ◌∷◌, length, refl, sym, arith, rules}
use Rattle.session_text.specs.view.Filled.{MatchFilled}
use Rattle.session_text.specs.declared.input.Filled.{Filled}
use Rattle.session_text.specs.declared.input.Filled.TheVariants.{More, Ended, Failed, Spent}
use Rattle.session_text.proofs.input.Input.refresh.Goals as goal

-- each fact for a way that a read may go may be replaced by one that follows from it
each_way : (filled : Filled) (P Q R S P' Q' R' S' : Type 0) → MatchFilled filled P Q R S → (P → P') → (Q → Q') → (R → R') → (S → S') → MatchFilled filled P' Q' R' S'
each_way More P Q R S P' Q' R' S' is p q r s = p is
each_way Ended P Q R S P' Q' R' S' is p q r s = q is
each_way Failed P Q R S P' Q' R' S' is p q r s = r is
each_way Spent P Q R S P' Q' R' S' is p q r s = s is

empty : (xs : List ℕ) → length xs ≡ 0 → xs ≡ []
empty [] none = refl
empty (x ∷ xs) none = absurd (omega (arith, none))

pub returns-then-is_empty-clause-filled : goal.returns-then-is_empty-clause-filled
returns-then-is_empty-clause-filled g c =
    let none : c.args.self.now.pending ≡ [] = sym c.pending.ensures ∙ empty c.pending.result.now (search rules) in
    each_way c.fill.result _ _ _ _ _ _ _ _ c.fill.ensures.filled (λ more. more.1) (λ end. (end.0 ∙ none, end.2)) (λ failed. (failed.0 ∙ none, failed.1, failed.2)) (λ spent. (spent.0 ∙ none, spent.1, spent.2))
