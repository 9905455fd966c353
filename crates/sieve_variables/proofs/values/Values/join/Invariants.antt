use Rattle.std.proofs.Common.{◌≡◌, ◌++◌, drop}
use Rattle.sieve_variables.specs.Value.{text_value}
use Rattle.sieve_variables.proofs.values.Values.join.Given as goal

-- the octets in the buffer, and then those of the rest of the parts, are the octets of all parts
abbrev pub invariant-loop-part : goal.invariant-loop-part
invariant-loop-part l = l.buffer.items ++ text_value l.self (drop l.part-index l.parts) ≡ text_value l.self l.parts
