-- The pieces so far are written.
use Rattle.std.proofs.Common.{take}
use Rattle.devices.specs.Writers.{Wrote, pieces_text}
use Rattle.devices.proofs.writers.write_pieces.Given as goal

abbrev pub invariant-loop-piece : goal.invariant-loop-piece
invariant-loop-piece g l =
    Wrote g.W.Sink.contents g.W.Faults.fault_count l.initial.writer l.writer (pieces_text (take l.piece-index l.pieces))
