use Rattle.std.specs.List.{flat_map}
use Rattle.bench.specs.Report.{message_lines}
use Rattle.bench.specs.view.Entry.{judged_of}
use Rattle.bench.specs.view.Site.{site_as}
use Rattle.bench.proofs.Writing.{Writing}
use Rattle.bench.proofs.report.write_kept.Given as goal

-- the lines of the messages that are left are to be written
abbrev pub invariant-loop-id : goal.invariant-loop-id
invariant-loop-id g l =
    Writing g.W.Sink.contents g.W.Faults.fault_count l.initial.writer l.writer (flat_map (message_lines (site_as l.site)) (judged_of l.id-iterator)) (flat_map (message_lines (site_as l.site)) (judged_of l.messages.entries))
