use Rattle.std.specs.List.{flat_map}
use Rattle.bench.specs.view.Lines.{lookup_text}
use Rattle.bench.proofs.Writing.{Writing}
use Rattle.bench.proofs.report.write_lookups.Given as goal

-- the lines of the names that are left are to be written
abbrev pub invariant-loop-name : goal.invariant-loop-name
invariant-loop-name g l =
    Writing g.W.Sink.contents g.W.Faults.fault_count l.initial.writer l.writer (flat_map lookup_text l.name-iterator) (flat_map lookup_text l.fn.verdict.lookups)
