use Rattle.std.proofs.Common.{arith}
use Rattle.sieve_variables.proofs.Modified.{wholes}
use Rattle.sieve_variables.proofs.modifier.Modifiers.modified.Goals as goal

pub returns-then-self : goal.returns-then-self
returns-then-self c = grind (arith, wholes)
