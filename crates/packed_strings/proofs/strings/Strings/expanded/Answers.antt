use Rattle.std.proofs.Common.{arith}
use Rattle.std.proofs.lemmas.Grind.{common_steps}
use Rattle.packed_strings.proofs.Joining.{drop_at}
use Rattle.packed_strings.proofs.strings.Strings.expanded.Goals as goal

pub loop-i-preserved : goal.loop-i-preserved
loop-i-preserved c =
    let left = drop_at c.args.self.now c.loop-i.i c.get.result.now c.get.ensures in grind (arith, common_steps, left)
