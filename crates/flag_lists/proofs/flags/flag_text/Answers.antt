use Rattle.std.proofs.Common.{arith}
use Rattle.std.proofs.lemmas.Grind.{common_steps}
use Rattle.flag_lists.specs.Flags.{flag_text}
use Rattle.flag_lists.proofs.flags.flag_text.Goals as goal

pub loop-flag-preserved : goal.loop-flag-preserved
unfolding flag_text
loop-flag-preserved c = grind (arith, common_steps)
