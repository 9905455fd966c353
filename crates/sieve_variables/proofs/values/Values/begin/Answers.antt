use Rattle.std.proofs.Common.{rules}
use Rattle.sieve_variables.proofs.values.Values.begin.Goals as goal

pub returns-clause-begun : goal.returns-clause-begun
returns-clause-begun c = search rules

pub returns-clause-own : goal.returns-clause-own
returns-clause-own c = search rules
