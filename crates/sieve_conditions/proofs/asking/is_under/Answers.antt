use Rattle.std.proofs.Common.{rules}
use Rattle.sieve_conditions.proofs.asking.is_under.Goals as goal

pub returns : goal.returns
returns c = search rules
