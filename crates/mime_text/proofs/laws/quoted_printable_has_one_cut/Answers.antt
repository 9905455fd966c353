use Rattle.text_cut.proofs.Cut.{cut_is, cuts_from}
use Rattle.mime_text.proofs.Sequences.{finds}
use Rattle.mime_text.proofs.laws.quoted_printable_has_one_cut.Goals as goal

pub returns-clause-exists : goal.returns-clause-exists
returns-clause-exists c = cuts_from finds 0

pub returns-clause-only : goal.returns-clause-only
returns-clause-only c = cut_is finds
