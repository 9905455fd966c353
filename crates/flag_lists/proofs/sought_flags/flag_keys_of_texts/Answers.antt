use Rattle.std.proofs.Common.{arith}
use Rattle.std.proofs.lemmas.Grind.{common_steps}
use Rattle.flag_lists.specs.Flags.{flag_keys_of_texts}
use Rattle.flag_lists.proofs.sought_flags.flag_keys_of_texts.Goals as goal

pub loop-key-preserved : goal.loop-key-preserved
unfolding flag_keys_of_texts
loop-key-preserved c = grind (arith, common_steps)
