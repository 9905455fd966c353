use Rattle.std.proofs.Common.{sym, ap, ◌∙◌, arith}
use Rattle.jiff_core.proofs.SignedLemmas.{signed_arith}
use Rattle.jiff_core.proofs.CalendarLemmas.{day_count-epoch, days_from_civil-day_count}
use Rattle.date_text.specs.Calendar.{date_at}
use Rattle.date_text.proofs.DayLemmas.{date_at-day_number, date_at_is, in_years, next_is}
use Rattle.date_text.proofs.laws.days_and_dates_go_into_each_other.Goals as goal

pub returns-clause-within : goal.returns-clause-within
returns-clause-within c = λ date h. in_years date.year date.month date.day h

pub returns-clause-back : goal.returns-clause-back
returns-clause-back c = date_at-day_number

pub returns-clause-one : goal.returns-clause-one
returns-clause-one c = λ a b here there same. sym (date_at-day_number a here) ∙ ap date_at same ∙ date_at-day_number b there

pub returns-clause-next : goal.returns-clause-next
returns-clause-next c = λ date h. (next_is date h).0

pub returns-clause-each : goal.returns-clause-each
returns-clause-each c = date_at_is

pub returns-clause-first : goal.returns-clause-first
returns-clause-first c = omega (arith, signed_arith, days_from_civil-day_count, day_count-epoch)
