use Rattle.std.proofs.Common.{◌≡◌, ◌+◌, drop, length}
use Rattle.sieve_variables.specs.Value.{text_value}
use Rattle.sieve_variables.proofs.values.Values.joined_len.Given as goal

-- the octets counted so far and those of the rest of the parts are as many as all
abbrev pub invariant-loop-part : goal.invariant-loop-part
invariant-loop-part l = l.len + length (text_value l.self (drop l.part-index l.parts)) ≡ length (text_value l.self l.parts)
