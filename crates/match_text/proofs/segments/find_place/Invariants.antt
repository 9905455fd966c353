use Rattle.std.proofs.Common.{◌≡◌, ℕ, ◌+◌, ◌<◌, false, length, drop}
use Rattle.match_text.specs.view.Segment.{begins}
use Rattle.match_text.proofs.segments.find_place.Given as goal

-- The segment stands at no place of the text before the next one. The rest of the text begins
-- there.
abbrev pub invariant-places : goal.invariant-places
invariant-places l = record {
  rest : l.rest ≡ drop l.place l.text;
  within : l.place + length l.rest ≡ length l.text;
  nowhere : (k : ℕ) → k < l.place → begins l.segment (drop k l.text) ≡ false;
}

abbrev pub decreases-places : goal.decreases-places
decreases-places l = length l.rest
