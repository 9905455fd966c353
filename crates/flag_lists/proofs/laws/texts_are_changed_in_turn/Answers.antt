use Rattle.flag_lists.specs.Flags.{distinct, flags_of_texts}
use Rattle.flag_lists.proofs.FlagLists.{union_nil, without_none}
use Rattle.flag_lists.proofs.Turns.{added, taken}
use Rattle.flag_lists.proofs.laws.texts_are_changed_in_turn.Goals as goal

pub returns-clause-none_added : goal.returns-clause-none_added
unfolding flags_of_texts distinct
returns-clause-none_added c = union_nil

pub returns-clause-added : goal.returns-clause-added
returns-clause-added c = added

pub returns-clause-none_taken : goal.returns-clause-none_taken
unfolding flags_of_texts distinct
returns-clause-none_taken c = without_none

pub returns-clause-taken : goal.returns-clause-taken
returns-clause-taken c = taken
