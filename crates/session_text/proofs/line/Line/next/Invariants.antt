use Rattle.std.proofs.Common.{◌≡◌, ◌≤◌, true}
use Rattle.std.specs.Io.KnownBytes.{Keeps}
use Rattle.session_text.specs.view.Input.{Reads, unused, fuel, Knows}
use Rattle.session_text.specs.view.Line.{IsCutOff}
use Rattle.session_text.proofs.line.Line.next.Given as goal

-- No octets were used. Nothing was read where the unused octets have the line already, nor after
-- the end of the input.
abbrev pub invariant-loop-at : goal.invariant-loop-at
invariant-loop-at g l =
    Keeps (unused l.fn.input (g.R.Source.remaining l.fn.reader)) (unused l.input (g.R.Source.remaining l.reader))
    × (fuel l.input ≤ fuel l.fn.input)
    × Reads g.R.Source.remaining g.R.Faults.fault_count g.R.Source.call_count l.fn.input l.input l.fn.reader l.reader
    × Knows l.input (g.R.Source.remaining l.reader)
    × ((IsCutOff l.fn.input.pending → ⊥) → (l.input ≡ l.fn.input) × (l.reader ≡ l.fn.reader))
    × (l.fn.input.ended ≡ true → (l.input ≡ l.fn.input) × (l.reader ≡ l.fn.reader))

abbrev pub decreases-loop-at : goal.decreases-loop-at
decreases-loop-at g l = fuel l.input
