use Rattle.std.proofs.Common.{◌≡◌, length, is_some}
use Rattle.session_text.specs.SessionLine.{quoted_value}
use Rattle.session_text.proofs.word.is_quoted.Given as goal

-- the rest of the word is quoted well exactly where the whole word is
abbrev pub invariant-loop-left : goal.invariant-loop-left
invariant-loop-left l = is_some (quoted_value l.word) ≡ is_some (quoted_value l.rest)

abbrev pub decreases-loop-left : goal.decreases-loop-left
decreases-loop-left l = length l.rest
