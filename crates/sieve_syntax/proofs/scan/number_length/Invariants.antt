use Rattle.std.proofs.Common.{◌≡◌, ◌+◌, drop}
use Rattle.sieve_syntax.specs.Scan.{number_length}
use Rattle.sieve_syntax.proofs.scan.number_length.Given as goal

abbrev pub invariant-loop-i : goal.invariant-loop-i
invariant-loop-i l = l.i + number_length (drop l.i l.rest) ≡ number_length l.rest
