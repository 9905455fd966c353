use Rattle.match_text.proofs.Deciding.{is_part-Decides, is_part-empty, same-Decides}
use Rattle.match_text.proofs.laws.sameness_is_decided.Goals as goal

pub returns-clause-same : goal.returns-clause-same
returns-clause-same c = same-Decides

pub returns-clause-part : goal.returns-clause-part
returns-clause-part c = is_part-Decides

pub returns-clause-empty : goal.returns-clause-empty
returns-clause-empty c = is_part-empty
