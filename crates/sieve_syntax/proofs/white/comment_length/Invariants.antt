use Rattle.std.proofs.Common.{◌≡◌, drop}
use Rattle.sieve_syntax.specs.White.{comment_length}
use Rattle.sieve_syntax.specs.Scan.{shifted}
use Rattle.sieve_syntax.proofs.white.comment_length.Given as goal

abbrev pub invariant-loop-i : goal.invariant-loop-i
invariant-loop-i l = shifted l.i (comment_length (drop l.i l.rest)) ≡ comment_length l.rest
