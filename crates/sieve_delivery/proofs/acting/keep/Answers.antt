use Rattle.std.proofs.Common.{rules}
use Rattle.sieve_delivery.proofs.acting.keep.Goals as goal

pub returns : goal.returns
returns c = search rules
