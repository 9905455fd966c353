use Rattle.std.proofs.Common.{◌≡◌, [], ap, rules}
use Rattle.std.specs.List.{flat_map}
use Rattle.bench.specs.Report.{message_lines}
use Rattle.bench.specs.view.Entry.{judged_of}
use Rattle.bench.specs.view.Site.{site_as}
use Rattle.bench.proofs.Judged.{lines_cut}
use Rattle.bench.proofs.Writing.{ends, goes_on_from, stops}
use Rattle.bench.proofs.report.write_kept.Goals as goal

pub loop-id-preserved : goal.loop-id-preserved
loop-id-preserved g c =
    goes_on_from _ _ _ _ _ _ (flat_map (message_lines (site_as c.args.site.now)) (judged_of c.next.new.self)) _ _ c.loop-id.invariant
    (lines_cut (message_lines (site_as c.args.site.now)) c.loop-id.id-iterator c.next.new.self (c.in-Some.id.now, c.in-Some.entry.now) c.in-Some.ensures.steps) c.in_ok-write_entry.ensures

pub returns-in_err-write_entry : goal.returns-in_err-write_entry
returns-in_err-write_entry g c =
    stops _ _ _ c.from_residual.ensures.0 _ _ _ _ (flat_map (message_lines (site_as c.args.site.now)) (judged_of c.next.new.self)) _ _ c.loop-id.invariant
    (lines_cut (message_lines (site_as c.args.site.now)) c.loop-id.id-iterator c.next.new.self (c.in-Some.id.now, c.in-Some.entry.now) c.in-Some.ensures.steps) c.in_err-write_entry.ensures

pub returns : goal.returns
unfolding judged_of
returns g c =
    let none : c.loop-id.id-iterator ≡ [] = search rules in
    ends _ _ _ _ _ _ (ap (λ l. flat_map (message_lines (site_as c.args.site.now)) (judged_of l)) none) c.loop-id.invariant
