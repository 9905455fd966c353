use Rattle.std.proofs.Common.{ap}
use Rattle.std.proofs.lemmas.List.{drop_all}
use Rattle.std.specs.List.{flat_map}
use Rattle.bench.proofs.Lines.{entries_text, entry_text}
use Rattle.bench.proofs.Writing.{ends, goes_on_at, stops_at}
use Rattle.bench.proofs.report.write_told_actions.Goals as goal

pub loop-entry-preserved : goal.loop-entry-preserved
loop-entry-preserved g c =
    goes_on_at _ _ _ _ _ (entry_text c.args.traced) c.entries-entries.result.now c.loop-entry.entry-index c.entry-item.result _ c.loop-entry-test.true c.entry-item.is c.loop-entry.invariant c.in_ok-write_told_entry.ensures

pub returns-in_err-write_told_entry : goal.returns-in_err-write_told_entry
returns-in_err-write_told_entry g c =
    rw (← entries_text c.args.traced c.entries-entries.result.now _ c.entries-entries.ensures.entries)
    (stops_at _ _ _ c.from_residual.ensures.0 _ _ _ (entry_text c.args.traced) c.entries-entries.result.now c.loop-entry.entry-index c.entry-item.result _ c.loop-entry-test.true c.entry-item.is c.loop-entry.invariant c.in_err-write_told_entry.ensures)

pub returns : goal.returns
returns g c =
    rw (← entries_text c.args.traced c.entries-entries.result.now _ c.entries-entries.ensures.entries)
    (ends _ _ _ _ _ _ (ap (flat_map (entry_text c.args.traced)) (drop_all c.loop-entry.entry-index c.entries-entries.result.now c.loop-entry-test.false)) c.loop-entry.invariant)
