use Rattle.std.proofs.Common.{rules}
use Rattle.sieve_delivery.proofs.acting.discard.Goals as goal

pub returns : goal.returns
returns c = search rules
