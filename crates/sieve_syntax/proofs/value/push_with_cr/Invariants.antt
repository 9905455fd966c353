use Rattle.std.proofs.Common.{◌≡◌, ◌++◌, false, drop}
use Rattle.sieve_syntax.specs.Value.{with_cr}
use Rattle.sieve_syntax.proofs.value.push_with_cr.Given as goal

abbrev pub invariant-loop-octet : goal.invariant-loop-octet
invariant-loop-octet l = l.out.items ++ with_cr l.after_cr (drop l.octet-index l.octets) ≡ l.fn.out.items ++ with_cr false l.octets
