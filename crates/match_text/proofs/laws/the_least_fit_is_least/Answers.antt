use Rattle.match_text.proofs.LeastFit.{least_fit-none, least_fit-some}
use Rattle.match_text.proofs.laws.the_least_fit_is_least.Goals as goal

pub returns-clause-least : goal.returns-clause-least
returns-clause-least c = least_fit-some

pub returns-clause-none : goal.returns-clause-none
returns-clause-none c = least_fit-none
