use Rattle.match_text.proofs.Places.{IsPart-found}
use Rattle.match_text.proofs.comparators.OctetComparator.contains.Goals as goal

pub returns : goal.returns
returns c = rw c.is_some.ensures (IsPart-found _ _ _ c.find.ensures)
