use Rattle.std.proofs.Common.{◌≡◌, ℕ, ◌≤◌, ◌<◌, map, slice_get, Some, false}
use Rattle.message_text.specs.Fields.{fields_of, is_field_named}
use Rattle.message_text.proofs.names.next_named.Given as goal

-- no field from `start` on and before the next one has the name
abbrev pub invariant-loop-i : goal.invariant-loop-i
invariant-loop-i l = (k : ℕ) → l.start ≤ k → k < l.i → slice_get (map (is_field_named l.name) (fields_of l.octets)) k ≡ Some false
