use Rattle.std.proofs.Common.{◌≤◌, [], false}
use Rattle.session_text.specs.view.Input.{Reads, unused, fuel, Knows}
use Rattle.session_server.specs.Session.{Moved, served}
use Rattle.session_server.specs.view.Progress.{SoFar}
use Rattle.session_server.proofs.server.session.Given as goal

-- the commands so far are carried out, and their replies written
abbrev pub invariant-loop-end : goal.invariant-loop-end
invariant-loop-end g l =
    SoFar l.input.ended (served l.fn.bench l.fn.meter) (g.R.Source.remaining l.fn.reader) (g.W.Sink.contents l.fn.writer) (served l.bench l.meter) (unused l.input (g.R.Source.remaining l.reader)) (g.W.Sink.contents l.writer)
    × Knows l.input (g.R.Source.remaining l.reader)
    × Reads g.R.Source.remaining g.R.Faults.fault_count g.R.Source.call_count (record { pending = []; turns = l.turns; ended = false }) l.input l.fn.reader l.reader
    × (g.W.Faults.fault_count l.fn.writer ≤ g.W.Faults.fault_count l.writer)
    × Moved (served l.fn.bench l.fn.meter) (served l.bench l.meter)

abbrev pub decreases-loop-end : goal.decreases-loop-end
decreases-loop-end g l = fuel l.input
