use Rattle.flag_lists.proofs.FlagLists.{distinct_stays, union_copies}
use Rattle.flag_lists.proofs.laws.distinct_flags_stay.Goals as goal

pub returns-clause-distinct : goal.returns-clause-distinct
returns-clause-distinct c = distinct_stays

pub returns-clause-union : goal.returns-clause-union
returns-clause-union c = union_copies
