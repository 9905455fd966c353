use Rattle.std.proofs.Common.{◌≡◌, take}
use Rattle.match_text.specs.view.Segment.{literals}
use Rattle.match_text.proofs.segments.literals.Given as goal

-- the items of the segment so far are the literals of the octets so far
abbrev pub invariant-loop-item : goal.invariant-loop-item
invariant-loop-item l = take l.item-index l.segment ≡ literals l.octets.items
