use Rattle.std.proofs.Common.{◌≡◌, ◌++◌, ◌-◌, length, drop, map}
use Rattle.std.specs.List.{All}
use Rattle.message_text.specs.Fields.{field_groups}
use Rattle.message_text.specs.view.Spans.{IsSpan, group_at}
use Rattle.message_text.proofs.fields.spans_of.Given as goal

-- The fields so far and those of the rest are those of the message. Each span so far says where its
-- field stands.
abbrev pub invariant-loop-start : goal.invariant-loop-start
invariant-loop-start l =
    (map (group_at l.octets) l.spans.items ++ field_groups (drop l.start l.octets) ≡ field_groups l.octets) × All (IsSpan l.octets) l.spans.items

abbrev pub decreases-loop-start : goal.decreases-loop-start
decreases-loop-start l = length l.octets - l.start
