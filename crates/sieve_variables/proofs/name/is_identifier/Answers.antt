use Rattle.std.proofs.Common.{arith, rules}
use Rattle.std.proofs.lemmas.Grind.{common_steps}
use Rattle.sieve_variables.proofs.name.is_identifier.Goals as goal

pub returns-then-begins_name : goal.returns-then-begins_name
returns-then-begins_name c = grind (arith, common_steps)

pub returns-else-begins_name : goal.returns-else-begins_name
returns-else-begins_name c = search rules
