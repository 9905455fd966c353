use Rattle.std.proofs.Common.{rules}
use Rattle.match_text.proofs.comparators.AsciiCasemapComparator.fold.Goals as goal

pub returns-in-97-to-122 : goal.returns-in-97-to-122
returns-in-97-to-122 c = search rules
