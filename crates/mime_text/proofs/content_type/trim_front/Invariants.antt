use Rattle.std.proofs.Common.{◌≡◌, ◌+◌, ◌-◌, ◌≤◌, length, drop}
use Rattle.std.specs.List.{prefix_len}
use Rattle.mime_text.specs.ContentType.{is_gap}
use Rattle.mime_text.proofs.content_type.trim_front.Given as goal

abbrev pub invariant-loop-start : goal.invariant-loop-start
invariant-loop-start l =
    (l.start ≤ length l.marks) × (l.start + prefix_len is_gap (drop l.start l.marks) ≡ prefix_len is_gap l.marks)

abbrev pub decreases-loop-start : goal.decreases-loop-start
decreases-loop-start l = length l.marks - l.start
