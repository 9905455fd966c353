use Rattle.std.proofs.Common.{rules}
use Rattle.sieve_check.proofs.arguments.has_unknown_namespace.Goals as goal

pub returns-then-has : goal.returns-then-has
returns-then-has c = search rules
