use Rattle.std.proofs.Common.{refl}
use Rattle.bench.specs.Report.{site_lines}
use Rattle.bench.proofs.Writing.{begins, goes_on, stops, ends_last}
use Rattle.bench.proofs.report.write_site.Goals as goal

pub returns-in_err-write_main : goal.returns-in_err-write_main
unfolding site_lines
returns-in_err-write_main g c =
    stops _ _ _ c.from_residual.ensures.0 _ _ _ _ _ _ _ (begins _ _ _ _) refl c.in_err-write_main.ensures

pub returns-in_err-write_envelope : goal.returns-in_err-write_envelope
unfolding site_lines
returns-in_err-write_envelope g c =
    stops _ _ _ c.from_residual-in_err-write_envelope.ensures.0 _ _ _ _ _ _ _ (goes_on _ _ _ _ _ _ _ _ (begins _ _ _ _) c.in_ok-write_main.ensures) refl c.in_err-write_envelope.ensures

pub returns-in_err-write_profile_lines : goal.returns-in_err-write_profile_lines
unfolding site_lines
returns-in_err-write_profile_lines g c =
    stops _ _ _ c.from_residual-in_err-write_profile_lines.ensures.0 _ _ _ _ _ _ _ (goes_on _ _ _ _ _ _ _ _ (goes_on _ _ _ _ _ _ _ _ (begins _ _ _ _) c.in_ok-write_main.ensures) c.in_ok-write_envelope.ensures) refl (rw c.profile.ensures at c.in_err-write_profile_lines.ensures)

pub returns : goal.returns
unfolding site_lines
returns g c =
    ends_last _ _ _ _ _ _ _ _
    (goes_on _ _ _ _ _ _ _ _ (goes_on _ _ _ _ _ _ _ _ (goes_on _ _ _ _ _ _ _ _ (begins _ _ _ _) c.in_ok-write_main.ensures) c.in_ok-write_envelope.ensures) (rw c.profile.ensures at c.in_ok-write_profile_lines.ensures)) c.write_scripts.ensures
