use Rattle.std.proofs.Common.{rules}
use Rattle.sieve_delivery.proofs.acting.value_of.Goals as goal

pub returns : goal.returns
returns c = search rules
