use Rattle.std.proofs.Common.{◌≡◌, ◌++◌}
use Rattle.std.specs.Prelude.{drop}
use Rattle.sieve_variables.proofs.few.Few.copied.Given as goal

-- the octets copied so far, and then the rest, are all octets
abbrev pub invariant-loop-octet : goal.invariant-loop-octet
invariant-loop-octet l = l.few ++ drop l.octet-index l.octets ≡ l.octets
