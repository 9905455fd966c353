use Rattle.std.proofs.Common.{rules}
use Rattle.sieve_delivery.proofs.flagging.changed_flags.Goals as goal

pub returns-in-Remove : goal.returns-in-Remove
returns-in-Remove c = search rules
