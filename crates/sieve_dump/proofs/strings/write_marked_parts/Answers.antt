-- If writing a part fails, the octets that were written are a front of the text of all parts.
use Rattle.devices.proofs.Writing.{wrote_items_then_front_at, writes_failed}
use Rattle.sieve_dump.specs.view.Marked.{marked_part}
use Rattle.sieve_dump.proofs.strings.write_marked_parts.Goals as goal

pub returns-in_err-write_part : goal.returns-in_err-write_part
unfolding marked_part
returns-in_err-write_part g c =
    writes_failed _ _ _ _ _ _ c.from_residual.ensures.0 (wrote_items_then_front_at _ _ _ _ _ marked_part c.args.parts.now c.loop-part.part-index _ c.part-item.result c.loop-part-test.true
    c.part-item.is c.loop-part.invariant c.in_err-write_part.ensures)
