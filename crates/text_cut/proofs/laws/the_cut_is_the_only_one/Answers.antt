use Rattle.text_cut.proofs.Cut.{cut_is, cuts_from}
use Rattle.text_cut.proofs.laws.the_cut_is_the_only_one.Goals as goal

pub returns-clause-exists : goal.returns-clause-exists
returns-clause-exists g c = cuts_from g.S.Sequence.finds 0

pub returns-clause-only : goal.returns-clause-only
returns-clause-only g c = cut_is g.S.Sequence.finds
