use Rattle.std.proofs.Common.{◌≡◌, ◌++◌, drop}
use Rattle.std.specs.List.{flat_map}
use Rattle.sieve_variables.specs.Modifier.{quoted_wildcard}
use Rattle.sieve_variables.proofs.modifier.quoted.Given as goal

-- the octets so far, and then the rest of the value quoted, are the whole value quoted
abbrev pub invariant-loop-octet : goal.invariant-loop-octet
invariant-loop-octet l = l.octets.items ++ flat_map quoted_wildcard (drop l.octet-index l.value) ≡ flat_map quoted_wildcard l.value
