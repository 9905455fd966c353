use Rattle.flag_lists.proofs.FlagLists.{distinct_union, distinct_without, flag_list-distinct, flags_of_texts-distinct}
use Rattle.flag_lists.proofs.laws.no_two_flags_are_the_same.Goals as goal

pub returns-clause-list : goal.returns-clause-list
returns-clause-list c = flag_list-distinct

pub returns-clause-lists : goal.returns-clause-lists
returns-clause-lists c = flags_of_texts-distinct

pub returns-clause-union : goal.returns-clause-union
returns-clause-union c = distinct_union

pub returns-clause-without : goal.returns-clause-without
returns-clause-without c = distinct_without
