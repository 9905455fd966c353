use Rattle.std.proofs.Common.{arith}
use Rattle.flag_lists.proofs.FlagLists.{union_copies}
use Rattle.flag_lists.proofs.flags.union.Goals as goal

pub returns : goal.returns
returns c = grind (arith, union_copies)
