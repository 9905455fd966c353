use Rattle.session_text.proofs.Plain.{plain_line}
use Rattle.session_text.proofs.Spaces.{values_of_line}
use Rattle.session_text.proofs.laws.a_line_gives_back_its_values.Goals as goal

pub returns-clause-plain : goal.returns-clause-plain
returns-clause-plain c = plain_line

pub returns-clause-values : goal.returns-clause-values
returns-clause-values c = values_of_line
