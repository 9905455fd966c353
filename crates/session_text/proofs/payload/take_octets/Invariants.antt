use Rattle.std.proofs.Common.{◌≡◌, ◌≤◌, ◌-◌, false, true, None, length}
use Rattle.std.specs.Option.{option_map}
use Rattle.session_text.specs.view.Input.{Reads, unused, fuel, Knows}
use Rattle.session_text.specs.view.Payload.{Takes, octets_kept}
use Rattle.session_text.proofs.payload.take_octets.Given as goal

-- Of the `count` octets all but `left` were taken, and kept only where that is asked for. Nothing
-- was read where all were read before, nor after the end of the input.
abbrev pub invariant-loop-left : goal.invariant-loop-left
invariant-loop-left g l =
    (l.left ≤ l.count)
    × Takes (l.count - l.left) (unused l.fn.input (g.R.Source.remaining l.fn.reader)) (unused l.input (g.R.Source.remaining l.reader)) (option_map octets_kept l.kept)
    × (fuel l.input ≤ fuel l.fn.input)
    × Knows l.input (g.R.Source.remaining l.reader)
    × (l.keep ≡ false → l.kept ≡ None)
    × (l.count ≤ length l.fn.input.pending → (l.left ≤ length l.input.pending) × (l.input.turns ≡ l.fn.input.turns) × (l.input.ended ≡ l.fn.input.ended) × (l.reader ≡ l.fn.reader))
    × (l.fn.input.ended ≡ true → (l.input.turns ≡ l.fn.input.turns) × (l.input.ended ≡ true) × (l.reader ≡ l.fn.reader))
    × Reads g.R.Source.remaining g.R.Faults.fault_count g.R.Source.call_count l.fn.input l.input l.fn.reader l.reader

abbrev pub decreases-loop-left : goal.decreases-loop-left
decreases-loop-left g l = l.left
