use Rattle.std.proofs.Common.{arith}
use Rattle.sieve_check.proofs.Uses.{use_steps}
use Rattle.sieve_check.proofs.arguments.check_use.Goals as goal

pub returns-then-stands_alone-clause-found : goal.returns-then-stands_alone-clause-found
returns-then-stands_alone-clause-found c = grind (arith, use_steps)

pub returns-then-has_bad_tag-clause-found : goal.returns-then-has_bad_tag-clause-found
returns-then-has_bad_tag-clause-found c = grind (arith, use_steps)

pub returns-then-has_bad_arguments-clause-found : goal.returns-then-has_bad_arguments-clause-found
returns-then-has_bad_arguments-clause-found c = grind (arith, use_steps)

pub returns-in_err-check_arguments-clause-found : goal.returns-in_err-check_arguments-clause-found
returns-in_err-check_arguments-clause-found c = grind (arith, use_steps)

pub returns-clause-found : goal.returns-clause-found
returns-clause-found c = grind (arith, use_steps)
