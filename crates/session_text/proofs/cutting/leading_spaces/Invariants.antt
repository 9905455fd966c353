use Rattle.std.proofs.Common.{◌≡◌, drop}
use Rattle.session_text.specs.SessionLine.{line_words}
use Rattle.session_text.proofs.cutting.leading_spaces.Given as goal

-- the line without the octets so far has the words of the whole line
abbrev pub invariant-loop-i : goal.invariant-loop-i
invariant-loop-i l = line_words (drop l.i l.line) ≡ line_words l.line
