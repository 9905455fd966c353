use Rattle.std.proofs.Common.{rules}
use Rattle.sieve_variables.proofs.values.Values.new.Goals as goal

pub returns : goal.returns
returns c = search rules
