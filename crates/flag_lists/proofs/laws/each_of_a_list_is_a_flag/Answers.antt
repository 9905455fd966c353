use Rattle.flag_lists.proofs.FlagLists.{flag_list-flags}
use Rattle.flag_lists.proofs.laws.each_of_a_list_is_a_flag.Goals as goal

pub returns : goal.returns
returns c = flag_list-flags
