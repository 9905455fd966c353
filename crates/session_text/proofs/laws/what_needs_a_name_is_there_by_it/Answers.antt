use Rattle.session_text.proofs.Needed.{empty, named, nameless}
use Rattle.session_text.proofs.laws.what_needs_a_name_is_there_by_it.Goals as goal

pub returns-clause-named : goal.returns-clause-named
returns-clause-named c = named

pub returns-clause-nameless : goal.returns-clause-nameless
returns-clause-nameless c = nameless

pub returns-clause-empty : goal.returns-clause-empty
returns-clause-empty c = empty
