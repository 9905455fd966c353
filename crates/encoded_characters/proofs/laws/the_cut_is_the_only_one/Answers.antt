use Rattle.text_cut.proofs.Cut.{cut_is, cuts_from}
use Rattle.encoded_characters.proofs.Found.{finds}
use Rattle.encoded_characters.proofs.laws.the_cut_is_the_only_one.Goals as goal

pub returns-clause-exists : goal.returns-clause-exists
returns-clause-exists c = cuts_from finds 0

pub returns-clause-only : goal.returns-clause-only
returns-clause-only c = cut_is finds
