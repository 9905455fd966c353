-- Nothing is written by the tries so far, each of which was interrupted.
use Rattle.std.proofs.Common.{[]}
use Rattle.devices.specs.Writers.{Wrote}
use Rattle.devices.proofs.writers.write_front.Given as goal

abbrev pub invariant-tries : goal.invariant-tries
invariant-tries g l = Wrote g.W.Sink.contents g.W.Faults.fault_count l.initial.writer l.writer []

abbrev pub decreases-tries : goal.decreases-tries
decreases-tries g l = l.retries
