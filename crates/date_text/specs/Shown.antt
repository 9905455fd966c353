-- The parts of a date as they are shown (RFC 5260, 4.2).
use Rattle.std.specs.Prelude.{ℕ, ◌+◌, ◌-◌, ◌/◌, ◌%◌, ℤ, pos, ◌+ℤ◌, List, [], ◌∷◌, ◌++◌, Option, Some, None, codes, get_or, if◌then◌else◌}
use Rattle.std.specs.Fmt.{signed_decimal}
use Rattle.date_text.specs.Calendar.{CivilDate, date_at, is_in_years, weekday_at}
use Rattle.date_text.specs.Moment.{Moment, day_in, minute_in}
use Rattle.date_text.specs.Number.{digit, four_digits, two_digits}
use Rattle.date_text.specs.Reading.{month_names, weekday_names}
use Rattle.date_text.specs.Zone.{Zone, zone_text, zone_text_with_colon}
use Rattle.date_text.specs.declared.part.DatePart.{DatePart}
use Rattle.date_text.specs.declared.part.DatePart.TheVariants.{Date, Day, Hour, Iso8601, Julian, Minute, Month, Second, Std11, Time, Weekday, Year, Zone as ZonePart}

-- a time on a zone's clocks: date, weekday, day number, minute of the day, second, and that zone
pub record LocalTime : Type 0 where
  pub date : CivilDate
  pub weekday : ℕ
  pub day : ℤ
  pub minute : ℕ
  pub second : ℕ
  pub zone : Zone

-- a minute of a day in a zone
abbrev pub local_at : (day : ℤ) (minute second : ℕ) → Zone → LocalTime
local_at day minute second zone = record { date = date_at day; weekday = weekday_at day; day = day; minute = minute; second = second; zone = zone }

-- a moment in a zone
abbrev pub local : Moment → Zone → LocalTime
local moment zone = local_at (day_in moment zone) (minute_in moment zone) moment.second zone

-- year, month and day: 2026-07-05
abbrev pub date_text : CivilDate → List ℕ
date_text date = four_digits date.year ++ codes "-" ++ two_digits date.month ++ codes "-" ++ two_digits date.day

-- hour, minute and second: 12:00:00
abbrev pub time_text : (minute second : ℕ) → List ℕ
time_text minute second = two_digits (minute / 60) ++ codes ":" ++ two_digits (minute % 60) ++ codes ":" ++ two_digits second

-- the name of a weekday, from 0 for Sunday, and that of a month, from 1
abbrev pub weekday_name : ℕ → List ℕ
weekday_name weekday = get_or weekday_names ((weekday + 6) % 7) []

abbrev pub month_name : ℕ → List ℕ
month_name month = get_or month_names (month - 1) []

-- weekday, day, month and year: Sun, 05 Jul 2026
abbrev pub day_text : (weekday : ℕ) → CivilDate → List ℕ
day_text weekday date = weekday_name weekday ++ codes ", " ++ two_digits date.day ++ codes " " ++ month_name date.month ++ codes " " ++ four_digits date.year

-- a part as it is shown; the modified Julian day of 1970-01-01 is 40587
abbrev pub part_text : DatePart → LocalTime → List ℕ
part_text Year l = four_digits l.date.year
part_text Month l = two_digits l.date.month
part_text Day l = two_digits l.date.day
part_text Date l = date_text l.date
part_text Julian l = signed_decimal (l.day +ℤ pos 40587)
part_text Hour l = two_digits (l.minute / 60)
part_text Minute l = two_digits (l.minute % 60)
part_text Second l = two_digits l.second
part_text Time l = time_text l.minute l.second
part_text Iso8601 l = date_text l.date ++ codes "T" ++ time_text l.minute l.second ++ zone_text_with_colon l.zone
part_text Std11 l = day_text l.weekday l.date ++ codes " " ++ time_text l.minute l.second ++ codes " " ++ zone_text l.zone
part_text ZonePart l = zone_text l.zone
part_text Weekday l = digit l.weekday ∷ []

-- The part of a moment in a zone. None where its date there lies before the year 0 or after 9999.
abbrev pub shown : Moment → Zone → DatePart → Option (List ℕ)
shown moment zone part = if is_in_years (day_in moment zone) then Some (part_text part (local moment zone)) else None
