use Rattle.std.proofs.Common.{◌≡◌, ◌<◌, Some, length, rules, ap, sym, ◌∙◌}
use Rattle.std.proofs.lemmas.Option.{slice_get-get_or}
use Rattle.packed_strings.proofs.Joining.{same_from}
use Rattle.packed_strings.proofs.joined.are_same.Goals as goal

pub loop-i-preserved : goal.loop-i-preserved
loop-i-preserved c = λ after.
    let i = c.loop-i.i in
    let one = c.index-one-i.result in let other = c.index-other-i.result in
    let here : i < length c.args.one.now = search rules in
    let there : i < length c.args.other.now = search rules in
    let is : one ≡ other = search rules in
    c.loop-i.invariant
    (same_from c.args.one.now c.args.other.now i one other
    (slice_get-get_or c.args.one.now i one here ∙ ap Some (sym c.index-one-i.is))
    (slice_get-get_or c.args.other.now i other there ∙ ap Some (sym c.index-other-i.is)) is after)
