use Rattle.std.proofs.Common.{arith}
use Rattle.flag_lists.proofs.FlagLists.{union_copies}
use Rattle.flag_lists.proofs.flags.FlagList.copied.Goals as goal

pub returns-in_err-insert_each : goal.returns-in_err-insert_each
returns-in_err-insert_each c = grind (arith, union_copies)

pub returns : goal.returns
returns c = grind (arith, union_copies)
