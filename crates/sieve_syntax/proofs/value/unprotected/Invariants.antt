use Rattle.std.proofs.Common.{◌≡◌, ◌++◌, drop}
use Rattle.sieve_syntax.specs.Value.{unprotected}
use Rattle.sieve_syntax.proofs.Values.{kept_of}
use Rattle.sieve_syntax.proofs.value.unprotected.Given as goal

abbrev pub invariant-loop-octet : goal.invariant-loop-octet
invariant-loop-octet l = l.kept.items ++ kept_of l.protected (drop l.octet-index l.octets) ≡ unprotected l.octets
