use Rattle.std.proofs.Common.{◌≡◌, ◌+◌, drop}
use Rattle.sieve_syntax.specs.Scan.{name_length}
use Rattle.sieve_syntax.proofs.scan.name_length.Given as goal

abbrev pub invariant-loop-i : goal.invariant-loop-i
invariant-loop-i l = l.i + name_length (drop l.i l.rest) ≡ name_length l.rest
