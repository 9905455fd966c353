use Rattle.std.proofs.Common.{rules}
use Rattle.sieve_variables.proofs.values.Values.set.Goals as goal

pub returns-in-Global-clause-ok : goal.returns-in-Global-clause-ok
returns-in-Global-clause-ok c = search rules
