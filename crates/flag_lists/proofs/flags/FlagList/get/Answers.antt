use Rattle.std.proofs.Common.{arith}
use Rattle.std.proofs.lemmas.Grind.{elements}
use Rattle.flag_lists.proofs.flags.FlagList.get.Goals as goal

pub returns : goal.returns
returns c = grind (arith, elements)
