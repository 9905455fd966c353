use Rattle.std.proofs.Common.{arith}
use Rattle.std.proofs.lemmas.Grind.{common_steps}
use Rattle.sieve_variables.proofs.parts.scoped_list.Goals as goal

pub loop-part-preserved : goal.loop-part-preserved
loop-part-preserved c = grind (arith, common_steps)
