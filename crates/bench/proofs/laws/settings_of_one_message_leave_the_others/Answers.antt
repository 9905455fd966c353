use Rattle.bench.proofs.Others.{own_alone}
use Rattle.bench.proofs.laws.settings_of_one_message_leave_the_others.Goals as goal

pub returns : goal.returns
returns c = own_alone
