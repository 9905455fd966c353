use Rattle.std.proofs.Common.{◌≡◌, ◌+◌, drop}
use Rattle.sieve_syntax.specs.Line.{line_length}
use Rattle.sieve_syntax.proofs.line.line_length.Given as goal

abbrev pub invariant-loop-i : goal.invariant-loop-i
invariant-loop-i l = l.i + line_length (drop l.i l.rest) ≡ line_length l.rest
