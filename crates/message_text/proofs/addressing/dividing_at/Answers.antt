use Rattle.std.proofs.Common.{arith}
use Rattle.message_text.proofs.DivisionLemmas.{with_both}
use Rattle.message_text.proofs.addressing.dividing_at.Goals as goal

pub returns : goal.returns
returns c =
    with_both c.args.marks.now c.after_last_at-after.result c.requires c.after_last_at-after.ensures (omega arith) (omega (arith, c.after_last_at-after.ensures.within))
