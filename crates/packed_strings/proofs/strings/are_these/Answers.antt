use Rattle.std.proofs.Common.{◌≡◌, ◌<◌, Some, length, rules, ap, sym, ◌∙◌}
use Rattle.std.proofs.lemmas.Option.{slice_get-get_or}
use Rattle.packed_strings.proofs.Joining.{same_from}
use Rattle.packed_strings.proofs.strings.are_these.Goals as goal

pub loop-i-preserved : goal.loop-i-preserved
loop-i-preserved c = λ after.
    let i = c.loop-i.i in let text = c.index-texts-i.result in
    let below : i < length c.args.texts.now = search rules in
    let at = slice_get-get_or c.args.texts.now i text below ∙ ap Some (sym c.index-texts-i.is) in
    let is : c.get.result.now ≡ text = search rules in
    c.loop-i.invariant
    (same_from c.args.strings.now c.args.texts.now i c.get.result.now text c.get.ensures at is after)
