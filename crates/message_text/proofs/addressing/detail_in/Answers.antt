use Rattle.std.proofs.Common.{◌+◌, ◌-◌, Some, length, drop, length-drop, ap, ◌∙◌, arith}
use Rattle.std.proofs.lemmas.List.{take_all}
use Rattle.message_text.proofs.SubaddressLemmas.{detail_is, no_detail}
use Rattle.message_text.proofs.addressing.detail_in.Goals as goal

pub returns-in_err-separator : goal.returns-in_err-separator
returns-in_err-separator c = rw c.from_residual.ensures (no_detail c.args.local.now c.in_err-separator.ensures)

pub returns : goal.returns
returns c =
    let local_part = c.args.local.now in
    let place = c.in_ok-separator.separator in
    let found = c.in_ok-separator.ensures in
    ap Some (take_all (length local_part - (place + 1)) (drop (place + 1) local_part) (omega (arith, length-drop (place + 1) local_part)))
    ∙ detail_is local_part place found.0 found.1
