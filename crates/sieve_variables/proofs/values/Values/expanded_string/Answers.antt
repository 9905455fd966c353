use Rattle.std.proofs.Common.{arith}
use Rattle.std.proofs.lemmas.Grind.{common_steps}
use Rattle.sieve_variables.proofs.values.Values.expanded_string.Goals as goal

pub returns-in-len1-clause-octets : goal.returns-in-len1-clause-octets
returns-in-len1-clause-octets c = grind (arith, common_steps)
