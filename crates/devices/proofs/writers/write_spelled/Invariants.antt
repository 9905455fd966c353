-- The spelling of the octets that are gone from the front is written.
use Rattle.std.proofs.Common.{◌≡◌, List, ℕ, ◌++◌, length}
use Rattle.std.specs.List.{flat_map}
use Rattle.devices.specs.Writers.{Wrote, octet_spelling}
use Rattle.devices.proofs.writers.write_spelled.Given as goal

abbrev pub invariant-loop-rest : goal.invariant-loop-rest
invariant-loop-rest g l =
    (done : List ℕ) × (done ++ l.rest ≡ l.bytes)
    × Wrote g.W.Sink.contents g.W.Faults.fault_count l.initial.writer l.writer (flat_map octet_spelling done)

abbrev pub decreases-loop-rest : goal.decreases-loop-rest
decreases-loop-rest g l = length l.rest
