use Rattle.std.proofs.Common.{rules}
use Rattle.match_text.proofs.segments.place_of.Goals as goal

pub returns : goal.returns
returns c = search rules
