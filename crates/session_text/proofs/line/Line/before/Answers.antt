use Rattle.std.proofs.Common.{◌∙◌, Some, List, ℕ, ◌++◌, ◌+◌, drop, ap, arith, length-take}
use Rattle.std.specs.Option.{option_map}
use Rattle.session_text.specs.SessionLine.{ended_line, line_so_far}
use Rattle.session_text.proofs.Lines.{first_line-found}
use Rattle.session_text.proofs.line.Line.before.Goals as goal

pub returns-then-len-gt-MAX_LINE-clause-line : goal.returns-then-len-gt-MAX_LINE-clause-line
returns-then-len-gt-MAX_LINE-clause-line c = λ left.
    let p = c.args.pending.now in
    let found = first_line-found p _ _ left c.requires.first in
    rw found (rw c.len_without_cr-len.ensures.line (omega (arith, length-take c.len_without_cr-len.result p)))

pub returns-else-len-gt-MAX_LINE-clause-line : goal.returns-else-len-gt-MAX_LINE-clause-line
returns-else-len-gt-MAX_LINE-clause-line c = λ left.
    let p = c.args.pending.now in
    first_line-found p _ _ left c.requires.first ∙ ap (λ (l : List ℕ). (l, drop (c.args.at + 1) p ++ left)) c.len_without_cr-len.ensures.line

pub returns-else-len-gt-MAX_LINE-clause-ended : goal.returns-else-len-gt-MAX_LINE-clause-ended
unfolding line_so_far
returns-else-len-gt-MAX_LINE-clause-ended c = λ more. ap (option_map ended_line) (c.requires.alone more) ∙ ap (λ (l : List ℕ). Some (l, more)) c.len_without_cr-len.ensures.line
