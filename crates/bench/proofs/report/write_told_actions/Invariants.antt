use Rattle.std.proofs.Common.{drop}
use Rattle.std.specs.List.{flat_map}
use Rattle.bench.proofs.Lines.{entry_text}
use Rattle.bench.proofs.Writing.{Writing}
use Rattle.bench.proofs.report.write_told_actions.Given as goal

-- the lines of the actions that are left are to be written
abbrev pub invariant-loop-entry : goal.invariant-loop-entry
invariant-loop-entry g l =
    Writing g.W.Sink.contents g.W.Faults.fault_count l.initial.writer l.writer (flat_map (entry_text l.traced) (drop l.entry-index l.entries)) (flat_map (entry_text l.traced) l.entries)
