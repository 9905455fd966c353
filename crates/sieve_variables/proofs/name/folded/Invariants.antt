use Rattle.std.proofs.Common.{◌≡◌, take}
use Rattle.sieve_variables.specs.Name.{folded_name}
use Rattle.sieve_variables.proofs.name.folded.Given as goal

-- the octets are those of the name so far, in lower case
abbrev pub invariant-loop-octet : goal.invariant-loop-octet
invariant-loop-octet l = l.octets.items ≡ folded_name (take l.octet-index l.name)
