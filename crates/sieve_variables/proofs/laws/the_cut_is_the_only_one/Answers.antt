use Rattle.text_cut.proofs.Cut.{cut_is}
use Rattle.sieve_variables.proofs.Cut.{cuts_from, finds}
use Rattle.sieve_variables.proofs.laws.the_cut_is_the_only_one.Goals as goal

pub returns-clause-exists : goal.returns-clause-exists
returns-clause-exists c = cuts_from 0

pub returns-clause-only : goal.returns-clause-only
returns-clause-only c = cut_is finds
