use Rattle.match_text.proofs.Standing.{segment_place}
use Rattle.match_text.proofs.segments.first_place.Goals as goal

pub returns-in-Some : goal.returns-in-Some
returns-in-Some c =
    segment_place c.args.segment.now c.in-Some.octets.items c.args.text.now c.find.result (rw c.in-Some.is at c.in_ok-octets.ensures) (rw c.deref.ensures.value at c.find.ensures)
