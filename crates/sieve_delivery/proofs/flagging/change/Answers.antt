use Rattle.std.proofs.Common.{rules}
use Rattle.sieve_delivery.proofs.flagging.change.Goals as goal

pub returns-in-None : goal.returns-in-None
returns-in-None c = search rules
