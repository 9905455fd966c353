use Rattle.std.proofs.Common.{◌≡◌, false, ◌+◌, ◌<◌}
use Rattle.std.specs.Io.KnownBytes.{Keeps}
use Rattle.devices.specs.Devices.{HasRisen}
use Rattle.session_text.specs.view.Input.{Reads, unused}
use Rattle.session_text.proofs.input.Input.fill.Given as goal

-- Nothing was read and no end was met. Each try took a turn, and where one was made the count of
-- faults has risen.
abbrev pub invariant-loop-retry : goal.invariant-loop-retry
invariant-loop-retry g l =
    (l.self.pending ≡ l.fn.self.pending)
    × (l.self.ended ≡ false)
    × Keeps (unused l.fn.self (g.R.Source.remaining l.fn.reader)) (unused l.self (g.R.Source.remaining l.reader))
    × (l.self.turns + l._retry ≡ l.fn.self.turns)
    × Reads g.R.Source.remaining g.R.Faults.fault_count g.R.Source.call_count l.fn.self l.self l.fn.reader l.reader
    × (0 < l._retry → HasRisen (g.R.Faults.fault_count l.fn.reader) (g.R.Faults.fault_count l.reader))
