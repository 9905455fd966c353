use Rattle.std.proofs.Common.{◌≡◌, drop}
use Rattle.sieve_syntax.specs.Scan.{opening_end, shifted}
use Rattle.sieve_syntax.proofs.multi_line.opening_end.Given as goal

abbrev pub invariant-loop-i : goal.invariant-loop-i
invariant-loop-i l = shifted l.i (opening_end (drop l.i l.rest)) ≡ opening_end l.rest
