use Rattle.std.proofs.Common.{◌≡◌, drop}
use Rattle.match_text.specs.view.Segment.{begins}
use Rattle.match_text.proofs.segments.begins.Given as goal

-- the text begins with the segment exactly if its rest begins with the rest of the segment
abbrev pub invariant-loop-item : goal.invariant-loop-item
invariant-loop-item l = begins (drop l.item-index l.segment) l.rest ≡ begins l.segment l.text
