use Rattle.std.specs.List.{flat_map}
use Rattle.bench.proofs.Texts.{own_line}
use Rattle.bench.proofs.Writing.{Writing}
use Rattle.bench.proofs.report.write_scripts.Given as goal

-- the lines of the scripts that are left are to be written
abbrev pub invariant-loop-name : goal.invariant-loop-name
invariant-loop-name g l =
    Writing g.W.Sink.contents g.W.Faults.fault_count l.initial.writer l.writer (flat_map own_line l.name-iterator) (flat_map own_line l.initial.name-iterator)
