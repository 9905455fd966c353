use Rattle.std.proofs.Common.{◌≡◌, ◌++◌, take, drop}
use Rattle.match_text.specs.view.Segment.{before_star, from_star}
use Rattle.match_text.proofs.segments.cut.Given as goal

-- the items so far begin the segment, and the rest has the same items from the first star on
abbrev pub invariant-loop-i : goal.invariant-loop-i
invariant-loop-i l = record {
  segment : take l.i l.items ++ before_star (drop l.i l.items) ≡ before_star l.items;
  after : from_star (drop l.i l.items) ≡ from_star l.items;
}
