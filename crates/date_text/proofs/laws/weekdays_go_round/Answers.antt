use Rattle.std.proofs.Common.{arith, pos, ◌+ℤ◌, refl}
use Rattle.jiff_core.proofs.CalendarLemmas.{weekday_number-add, weekday_number-parts, weekday_number_bound}
use Rattle.jiff_core.proofs.SignedLemmas.{signed_arith}
use Rattle.date_text.proofs.laws.weekdays_go_round.Goals as goal

pub returns-clause-next : goal.returns-clause-next
returns-clause-next c = λ day. omega (arith, weekday_number-add day (day +ℤ pos 1) 1 refl, weekday_number_bound day)

pub returns-clause-week : goal.returns-clause-week
returns-clause-week c = λ day. omega (arith, weekday_number-add day (day +ℤ pos 7) 7 refl, weekday_number_bound day)

pub returns-clause-first : goal.returns-clause-first
returns-clause-first c = omega (arith, signed_arith, weekday_number-parts (pos 0))
