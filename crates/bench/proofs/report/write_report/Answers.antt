use Rattle.std.proofs.Common.{refl}
use Rattle.bench.specs.Report.{report_with}
use Rattle.bench.proofs.Writing.{begins, goes_on, stops, ends_last}
use Rattle.bench.proofs.report.write_report.Goals as goal

pub returns-in_err-write_site : goal.returns-in_err-write_site
unfolding report_with
returns-in_err-write_site g c =
    stops _ _ _ c.from_residual.ensures.0 _ _ _ _ _ _ _ (begins _ _ _ _) refl c.in_err-write_site.ensures

pub returns-in_err-write_kept : goal.returns-in_err-write_kept
unfolding report_with
returns-in_err-write_kept g c =
    stops _ _ _ c.from_residual-in_err-write_kept.ensures.0 _ _ _ _ _ _ _ (goes_on _ _ _ _ _ _ _ _ (begins _ _ _ _) c.in_ok-write_site.ensures) refl c.in_err-write_kept.ensures

pub returns : goal.returns
unfolding report_with
returns g c =
    ends_last _ _ _ _ _ _ _ _ (goes_on _ _ _ _ _ _ _ _ (goes_on _ _ _ _ _ _ _ _ (begins _ _ _ _) c.in_ok-write_site.ensures) c.in_ok-write_kept.ensures) c.write_totals.ensures
