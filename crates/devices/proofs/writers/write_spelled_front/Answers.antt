-- A front of the spelling of the first octet is a front of the spelling of all.
use Rattle.devices.proofs.Writing.{wrote_nothing, wrote_items_then_front, on_err_from}
use Rattle.devices.specs.Writers.{octet_spelling}
use Rattle.devices.proofs.writers.write_spelled_front.Goals as goal

pub returns-in_err-write_spelling-clause-err : goal.returns-in_err-write_spelling-clause-err
returns-in_err-write_spelling-clause-err g c =
    on_err_from _ (wrote_items_then_front _ _ _ _ _ octet_spelling c.args.bytes.now 0 _ c.requires (wrote_nothing _ _ _) c.in_err-write_spelling.ensures)
