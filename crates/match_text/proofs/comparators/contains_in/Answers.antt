use Rattle.std.proofs.Common.{arith}
use Rattle.match_text.proofs.Folding.{folded_part}
use Rattle.match_text.proofs.comparators.contains_in.Goals as goal

pub returns : goal.returns
returns g c = grind (arith, folded_part)
