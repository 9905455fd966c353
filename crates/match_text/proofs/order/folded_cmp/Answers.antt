use Rattle.std.proofs.Common.{drop, ◌∙◌, arith}
use Rattle.std.proofs.lemmas.List.{length-drop}
use Rattle.match_text.proofs.Ordered.{goes_on}
use Rattle.match_text.proofs.order.folded_cmp.Goals as goal

pub returns-in_default : goal.returns-in_default
returns-in_default g c =
    let left = length-drop c.loop-x.x-index c.args.a.now in
    let test = c.loop-x-test.true in
    goes_on g.C.Comparator.folded (drop c.loop-x.x-index c.args.a.now) c.loop-x.left.now (omega arith) c.in_default.len_below
    ∙ c.loop-x.invariant
