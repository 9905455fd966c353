use Rattle.std.proofs.Common.{arith}
use Rattle.flag_lists.proofs.FlagLists.{union_from_none}
use Rattle.flag_lists.specs.Flags.{flag_list}
use Rattle.flag_lists.proofs.flags.flags_of.Goals as goal

pub returns : goal.returns
unfolding flag_list
returns c = grind (arith, union_from_none)
