-- When writing a part of a quoted form fails, a front of the form is written. Else all of it is.
use Rattle.std.proofs.Common.{◌++◌, codes}
use Rattle.std.specs.List.{flat_map}
use Rattle.devices.specs.Writers.{quoted, octet_spelling}
use Rattle.devices.proofs.Writing.{wrote_front_of, wrote_then_front, writes_failed, last_of_three}
use Rattle.devices.proofs.writers.write_quoted.Goals as goal

pub returns-in_err-write_out : goal.returns-in_err-write_out
unfolding quoted
returns-in_err-write_out g c =
    writes_failed _ _ _ _ _ _ c.from_residual.ensures.0 (wrote_front_of _ _ _ _ (codes "\"") (flat_map octet_spelling c.args.bytes.now ++ (codes "\"")) c.in_err-write_out.ensures)

pub returns-in_err-write_spelled : goal.returns-in_err-write_spelled
unfolding quoted
returns-in_err-write_spelled g c =
    writes_failed _ _ _ _ _ _ c.from_residual-in_err-write_spelled.ensures.0 (wrote_front_of _ _ _ _ ((codes "\"") ++ flat_map octet_spelling c.args.bytes.now) (codes "\"")
    (wrote_then_front _ _ _ _ _ (codes "\"") (flat_map octet_spelling c.args.bytes.now) c.in_ok-write_out.ensures c.in_err-write_spelled.ensures))

pub returns : goal.returns
unfolding quoted
returns g c =
    last_of_three _ _ _ _ _ _ _ (codes "\"") (flat_map octet_spelling c.args.bytes.now) (codes "\"") c.in_ok-write_out.ensures c.in_ok-write_spelled.ensures c.write_out-2.ensures
