use Rattle.std.proofs.Common.{rules}
use Rattle.sieve_variables.proofs.variable.Variable.scoped.Goals as goal

pub returns-then-has : goal.returns-then-has
returns-then-has c = search rules

pub returns-else-has : goal.returns-else-has
returns-else-has c = search rules
