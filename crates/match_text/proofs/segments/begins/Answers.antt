use Rattle.std.proofs.Common.{drop, sym, ◌∙◌, arith}
use Rattle.std.proofs.lemmas.List.{length-drop}
use Rattle.match_text.proofs.Standing.{begins-ended}
use Rattle.match_text.proofs.segments.begins.Goals as goal

pub returns-in_default : goal.returns-in_default
returns-in_default c =
    let left = length-drop c.loop-item.item-index c.args.segment.now in
    let ended = c.in_default.len_below in
    let test = c.loop-item-test.true in
    sym (begins-ended (drop c.loop-item.item-index c.args.segment.now) c.loop-item.rest.now (omega arith) (omega arith)) ∙ c.loop-item.invariant
