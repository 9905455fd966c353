use Rattle.std.proofs.Common.{◌≡◌, drop}
use Rattle.match_text.specs.Room.{may_match}
use Rattle.match_text.specs.view.Room.{has_room}
use Rattle.sieve_variables.specs.Value.{text_value}
use Rattle.sieve_conditions.proofs.matcher.may_match.Given as goal

-- there is room for the octets of the parts that are left exactly if the value can match the key
abbrev pub invariant-loop-part : goal.invariant-loop-part
invariant-loop-part l = has_room l.room (text_value l.values (drop l.part-index l.parts)) ≡ may_match l.fn.kind l.fn.size (text_value l.values l.parts)
