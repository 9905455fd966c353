use Rattle.std.proofs.Common.{◌≡◌, drop}
use Rattle.sieve_syntax.specs.Scan.{quoted_length, shifted}
use Rattle.sieve_syntax.proofs.Steps.{string_length}
use Rattle.sieve_syntax.proofs.scan.quoted_length.Given as goal

abbrev pub invariant-loop-i : goal.invariant-loop-i
invariant-loop-i l = shifted l.i (string_length l.protected (drop l.i l.rest)) ≡ quoted_length l.rest
