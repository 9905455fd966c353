use Rattle.std.proofs.Common.{arith}
use Rattle.sieve_variables.proofs.Modified.{first_written}
use Rattle.sieve_variables.proofs.modifier.with_first.Goals as goal

pub returns-then-not-is_empty : goal.returns-then-not-is_empty
returns-then-not-is_empty c = grind (arith, first_written)
