-- The octets that are gone from the front are written.
use Rattle.std.proofs.Common.{◌≡◌, List, ℕ, ◌++◌, length}
use Rattle.devices.specs.Writers.{Wrote}
use Rattle.devices.proofs.writers.write_out.Given as goal

abbrev pub invariant-loop-rest : goal.invariant-loop-rest
invariant-loop-rest g l =
    (done : List ℕ) × (done ++ l.rest ≡ l.bytes) × Wrote g.W.Sink.contents g.W.Faults.fault_count l.initial.writer l.writer done

abbrev pub decreases-loop-rest : goal.decreases-loop-rest
decreases-loop-rest g l = length l.rest
