-- When the writing of a piece fails, a front of the text of all pieces is written.
use Rattle.devices.specs.Writers.{piece_text}
use Rattle.devices.proofs.Writing.{wrote_items_then_front_at, writes_failed}
use Rattle.devices.proofs.writers.write_pieces.Goals as goal

pub returns-in_err-write_piece : goal.returns-in_err-write_piece
returns-in_err-write_piece g c =
    writes_failed _ _ _ _ _ _ c.from_residual.ensures.0 (wrote_items_then_front_at _ _ _ _ _ piece_text c.args.pieces.now c.loop-piece.piece-index _ c.piece-item.result c.loop-piece-test.true
    c.piece-item.is c.loop-piece.invariant c.in_err-write_piece.ensures)
