use Rattle.std.proofs.Common.{◌≡◌, ◌+◌, drop}
use Rattle.session_text.specs.SessionLine.{piece_length, outside}
use Rattle.session_text.specs.view.Command.{quoting_as}
use Rattle.session_text.proofs.cutting.word_len.Given as goal

-- the first piece of the line has the octets so far and those of the first piece of the rest
abbrev pub invariant-loop-i : goal.invariant-loop-i
invariant-loop-i l = piece_length outside l.line ≡ l.i + piece_length (quoting_as l.quoting) (drop l.i l.line)
