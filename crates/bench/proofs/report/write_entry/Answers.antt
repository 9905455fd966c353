use Rattle.std.proofs.Common.{None, option_copied, rules, sym, ap, ◌∙◌}
use Rattle.bench.proofs.Judged.{judged_one, one_lines}
use Rattle.bench.specs.Report.{message_lines}
use Rattle.bench.specs.view.Site.{site_as}
use Rattle.bench.proofs.report.write_entry.Goals as goal

pub returns-in-Some : goal.returns-in-Some
returns-in-Some g c =
    rw (one_lines (message_lines (site_as c.args.site.now)) c.args.id.now c.args.entry.now c.in-Some.verdict.now (sym c.kept.ensures ∙ ap option_copied c.in-Some.is)) c.write_judged.ensures

pub returns-in-None : goal.returns-in-None
returns-in-None g c = rw (judged_one c.args.id.now c.args.entry.now None (sym c.kept.ensures ∙ ap option_copied c.in-None.is)) (search rules)
