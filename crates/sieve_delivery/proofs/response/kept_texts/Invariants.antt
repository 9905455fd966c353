use Rattle.std.proofs.Common.{◌≡◌, map, take}
use Rattle.sieve_variables.specs.Value.{text_value}
use Rattle.sieve_delivery.proofs.response.kept_texts.Given as goal

-- the texts so far are the octets that the strings so far stand for
abbrev pub invariant-loop-i : goal.invariant-loop-i
invariant-loop-i l = l.texts ≡ map (text_value l.values) (take l.i l.strings)
