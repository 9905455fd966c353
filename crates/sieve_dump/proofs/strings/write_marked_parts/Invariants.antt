use Rattle.std.proofs.Common.{take}
use Rattle.std.specs.List.{flat_map}
use Rattle.devices.specs.Writers.{Wrote}
use Rattle.sieve_dump.specs.view.Marked.{marked_part}
use Rattle.sieve_dump.proofs.strings.write_marked_parts.Given as goal

abbrev pub invariant-loop-part : goal.invariant-loop-part
invariant-loop-part g l = Wrote g.W.Sink.contents g.W.Faults.fault_count l.initial.writer l.writer (flat_map marked_part (take l.part-index l.parts))
