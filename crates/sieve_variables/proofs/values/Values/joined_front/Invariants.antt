use Rattle.std.proofs.Common.{◌≡◌, ◌≤◌, ◌++◌, drop, length, take}
use Rattle.sieve_variables.specs.Value.{text_value}
use Rattle.sieve_variables.proofs.values.Values.joined_front.Given as goal

-- the octets so far, and then those of the rest of the parts, have the front of all
abbrev pub invariant-loop-part : goal.invariant-loop-part
invariant-loop-part l =
    (length l.front_octets.items ≤ l.limit) × (take l.limit (l.front_octets.items ++ text_value l.self (drop l.part-index l.parts)) ≡ take l.limit (text_value l.self l.parts))
