-- The lines at the start of a text that are continuations.
use Rattle.std.proofs.Common.{◌≡◌, ℕ, true, false, not, cond, ◌==◌, List, [], ◌∷◌, ◌++◌, length, refl, ap, ◌∙◌, arith}
use Rattle.std.specs.List.{concat, take_while}
use Rattle.std.proofs.lemmas.Bool.{cond-false, cond-true, ne_eqb}
use Rattle.std.proofs.lemmas.List.Sums.{take_while-cons}
use Rattle.message_text.specs.Fields.{is_continuation}
use Rattle.message_text.specs.view.Spans.{continues}

pub concat-continuation : (text more : List (List ℕ)) (line : List ℕ) → text ≡ line ∷ more → is_continuation line ≡ true → concat (take_while is_continuation text) ≡ line ++ concat (take_while is_continuation more)
concat-continuation text more line is continued =
    ap (λ (all : List (List ℕ)). concat (take_while is_continuation all)) is
    ∙ ap concat (take_while-cons is_continuation line more ∙ cond-true (is_continuation line) (line ∷ take_while is_continuation more) [] continued)

pub none_continues : (text : List (List ℕ)) → (length (take_while is_continuation text) == 0) ≡ not (continues text)
none_continues [] = refl
none_continues (line ∷ more) =
    ap (λ (lines : List (List ℕ)). length lines == 0) (take_while-cons is_continuation line more)
    ∙ elim (is_continuation line) as (λ b. (length (cond b (line ∷ take_while is_continuation more) []) == 0) ≡ not b) [
      | true ↦ ne_eqb (length (line ∷ take_while is_continuation more)) 0 (omega arith)
      | false ↦ refl
    ]

pub no_lines : (text : List (List ℕ)) → continues text ≡ false → take_while is_continuation text ≡ []
no_lines [] none = refl
no_lines (line ∷ more) none = take_while-cons is_continuation line more ∙ cond-false (is_continuation line) (line ∷ take_while is_continuation more) [] none
