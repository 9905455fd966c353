use Rattle.std.proofs.Common.{[], ◌∷◌, sym}
use Rattle.flag_lists.proofs.FlagLists.{without_none, without_twice}
use Rattle.flag_lists.proofs.laws.flags_are_taken_out_in_turn.Goals as goal

pub returns-clause-none : goal.returns-clause-none
returns-clause-none c = without_none

pub returns-clause-more : goal.returns-clause-more
returns-clause-more c = λ flags others flag. sym (without_twice flags (flag ∷ []) others)
