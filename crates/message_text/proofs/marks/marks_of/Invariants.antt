use Rattle.std.proofs.Common.{◌≡◌, ◌++◌, ◌≤◌, drop}
use Rattle.message_text.specs.Addresses.{marks_from, marks_of}
use Rattle.structured_text.specs.Structure.{depth_of}
use Rattle.message_text.proofs.marks.marks_of.Given as goal

-- The marks so far and those of the rest are those of the value. No more comments are open than
-- octets were read.
abbrev pub invariant-loop-place : goal.invariant-loop-place
invariant-loop-place l =
    (depth_of l.spot.state ≤ l.place) × (l.marked.items ++ marks_from l.spot (drop l.place l.value) ≡ marks_of l.value)
