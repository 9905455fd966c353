use Rattle.std.specs.Bool.{⊤}
use Rattle.session_text.specs.view.Line.{MatchEnd}
use Rattle.session_text.specs.declared.line.Line.{Line}
use Rattle.session_text.specs.declared.line.Line.TheVariants.{Over, Whole, TooLong, Failed, Spent}
use Rattle.session_text.proofs.line.Line.next.Goals as goal

-- each fact for the end, a failed read or spent turns may be replaced by one that follows from it
at_end : (line : Line) (P Q R P' Q' R' : Type 0) → MatchEnd line P Q R → (P → P') → (Q → Q') → (R → R') → MatchEnd line P' Q' R'
at_end Over P Q R P' Q' R' may p q r = p may
at_end (Whole len skip) P Q R P' Q' R' may p q r = tt
at_end TooLong P Q R P' Q' R' may p q r = tt
at_end Failed P Q R P' Q' R' may p q r = q may
at_end Spent P Q R P' Q' R' may p q r = r may

pub returns-in-Some-clause-end : goal.returns-in-Some-clause-end
returns-in-Some-clause-end g c = at_end c.before-in-Some.result ⊥ ⊥ ⊥ _ _ _ c.before-in-Some.ensures.kind (λ no. absurd no) (λ no. absurd no) (λ no. absurd no)

pub returns-in-Ended-clause-end : goal.returns-in-Ended-clause-end
returns-in-Ended-clause-end g c = at_end c.last.result ⊤ ⊥ ⊥ _ _ _ c.last.ensures.kind (λ _. c.in-Ended.ensures.filled.2) (λ no. absurd no) (λ no. absurd no)
