use Rattle.std.proofs.Common.{refl}
use Rattle.bench.specs.view.Lines.{verdict_texts}
use Rattle.bench.proofs.Writing.{begins, goes_on, stops, ends_last}
use Rattle.bench.proofs.report.write_verdict.Goals as goal

pub returns-in_err-write_told_actions : goal.returns-in_err-write_told_actions
unfolding verdict_texts
returns-in_err-write_told_actions g c =
    stops _ _ _ c.from_residual.ensures.0 _ _ _ _ _ _ _ (begins _ _ _ _) refl c.in_err-write_told_actions.ensures

pub returns-in_err-write_implicit_line : goal.returns-in_err-write_implicit_line
unfolding verdict_texts
returns-in_err-write_implicit_line g c =
    stops _ _ _ c.from_residual-in_err-write_implicit_line.ensures.0 _ _ _ _ _ _ _ (goes_on _ _ _ _ _ _ _ _ (begins _ _ _ _) c.in_ok-write_told_actions.ensures) refl c.in_err-write_implicit_line.ensures

pub returns-in_err-write_error_line : goal.returns-in_err-write_error_line
unfolding verdict_texts
returns-in_err-write_error_line g c =
    stops _ _ _ c.from_residual-in_err-write_error_line.ensures.0 _ _ _ _ _ _ _ (goes_on _ _ _ _ _ _ _ _ (goes_on _ _ _ _ _ _ _ _ (begins _ _ _ _) c.in_ok-write_told_actions.ensures) c.in_ok-write_implicit_line.ensures) refl c.in_err-write_error_line.ensures

pub returns : goal.returns
unfolding verdict_texts
returns g c =
    ends_last _ _ _ _ _ _ _ _ (goes_on _ _ _ _ _ _ _ _ (goes_on _ _ _ _ _ _ _ _ (goes_on _ _ _ _ _ _ _ _ (begins _ _ _ _) c.in_ok-write_told_actions.ensures) c.in_ok-write_implicit_line.ensures) c.in_ok-write_error_line.ensures) c.write_lookups.ensures
