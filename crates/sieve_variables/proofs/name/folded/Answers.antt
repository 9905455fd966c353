use Rattle.std.proofs.Common.{arith}
use Rattle.std.proofs.lemmas.Grind.{common_steps}
use Rattle.sieve_variables.proofs.name.folded.Goals as goal

pub loop-octet-preserved : goal.loop-octet-preserved
loop-octet-preserved c = grind (arith, common_steps)
