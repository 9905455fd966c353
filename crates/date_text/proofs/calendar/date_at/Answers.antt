use Rattle.std.proofs.Common.{sym, ap, subst, ◌∙◌, to_z-of_z, arith}
use Rattle.std.proofs.lemmas.Bool.{false≢true}
use Rattle.jiff_core.specs.Calendar.{IsEpochDay}
use Rattle.jiff_core.proofs.DateLemmas.{civil}
use Rattle.jiff_core.proofs.SignedLemmas.{signed_arith}
use Rattle.date_text.specs.Calendar.{date_at, is_in_years}
use Rattle.date_text.proofs.DayLemmas.{before_years, late_date, late_in_years, past_days}
use Rattle.date_text.proofs.calendar.date_at.Goals as goal

pub returns-then-date-lt0-clause-in_years : goal.returns-then-date-lt0-clause-in_years
returns-then-date-lt0-clause-in_years c =
    let date = c.in-Ok.date in
    ap is_in_years (sym (c.in-Ok.ensures.value ∙ to_z-of_z c.ranges.day)) ∙ before_years date.year date.month date.day (civil date) (omega (arith, signed_arith))

pub returns-else-date-lt0-clause-in_years : goal.returns-else-date-lt0-clause-in_years
returns-else-date-lt0-clause-in_years c =
    let date = c.in-Ok.date in
    ap is_in_years (sym (c.in-Ok.ensures.value ∙ to_z-of_z c.ranges.day)) ∙ late_in_years date.year date.month date.day (civil date) (omega (arith, signed_arith))

pub returns-else-date-lt0-clause-date : goal.returns-else-date-lt0-clause-date
returns-else-date-lt0-clause-date c =
    let date = c.in-Ok.date in
    late_date date.year date.month date.day (civil date) (omega (arith, signed_arith)) ∙ ap date_at (c.in-Ok.ensures.value ∙ to_z-of_z c.ranges.day)

pub returns-in-Err-clause-in_years : goal.returns-in-Err-clause-in_years
returns-in-Err-clause-in_years c = past_days c.args.day (λ day. false≢true (c.in-Err.ensures.succeeds.1 (subst IsEpochDay (sym (to_z-of_z c.ranges.day)) day)))
