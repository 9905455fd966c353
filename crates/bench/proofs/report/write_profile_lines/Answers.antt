use Rattle.std.proofs.Common.{refl}
use Rattle.bench.specs.Report.{profile_lines}
use Rattle.bench.proofs.Writing.{begins, goes_on, stops, ends_last}
use Rattle.bench.proofs.report.write_profile_lines.Goals as goal

pub returns-in_err-write_profile : goal.returns-in_err-write_profile
unfolding profile_lines
returns-in_err-write_profile g c =
    stops _ _ _ c.from_residual.ensures.0 _ _ _ _ _ _ _ (begins _ _ _ _) refl c.in_err-write_profile.ensures

pub returns-in_err-write_clock_line : goal.returns-in_err-write_clock_line
unfolding profile_lines
returns-in_err-write_clock_line g c =
    stops _ _ _ c.from_residual-in_err-write_clock_line.ensures.0 _ _ _ _ _ _ _ (goes_on _ _ _ _ _ _ _ _ (begins _ _ _ _) c.in_ok-write_profile.ensures) refl c.in_err-write_clock_line.ensures

pub returns : goal.returns
unfolding profile_lines
returns g c =
    ends_last _ _ _ _ _ _ _ _
    (goes_on _ _ _ _ _ _ _ _ (goes_on _ _ _ _ _ _ _ _ (begins _ _ _ _) c.in_ok-write_profile.ensures) c.in_ok-write_clock_line.ensures)
    (rw c.as_slice.ensures at c.write_mailboxes.ensures)
