use Rattle.std.proofs.Common.{rules}
use Rattle.sieve_delivery.proofs.ending.fail.Goals as goal

pub returns : goal.returns
returns c = search rules
