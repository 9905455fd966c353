use Rattle.devices.proofs.Writing.{writes_failed, wrote_front_of, wrote_then_front}
use Rattle.sieve_dump.specs.Dump.{line_text}
use Rattle.sieve_dump.proofs.operation.write_line.Goals as goal

pub returns-in_err-write_op : goal.returns-in_err-write_op
unfolding line_text
returns-in_err-write_op g c = writes_failed _ _ _ _ _ _ c.from_residual-in_err-write_op.ensures.0 (wrote_front_of _ _ _ _ _ _ (wrote_then_front _ _ _ _ _ _ _ c.in_ok-write_place.ensures c.in_err-write_op.ensures))
