-- Dates of the years 0 to 9999, and their day numbers. The calendar of `jiff_core` says which dates
-- exist, and how many days each is after 1970-01-01.
use Rattle.std.specs.Prelude.{ℕ, zero, suc, ◌+◌, ◌%◌, Bool, ◌&&◌, nat_lt, ℤ, pos, ◌-ℤ◌, int_le, unsigned_abs, Option, Some, None, if◌then◌else◌}
use Rattle.jiff_core.specs.Calendar.{days_from_civil, days_in_month, weekday_number, IsCivilDate}
use Rattle.octets.specs.Octet.{is_between}

-- a year, a month from 1 and a day from 1
pub record CivilDate : Type 0 where
  pub year : ℕ
  pub month : ℕ
  pub day : ℕ

-- the calendar has this date, in a year of four digits
abbrev pub IsInCalendar : CivilDate → Type 0
IsInCalendar date = IsCivilDate (pos date.year) date.month date.day

-- the number of days after 1970-01-01
abbrev pub day_number : CivilDate → ℤ
day_number date = days_from_civil (pos date.year) date.month date.day

-- a date, if the month has such a day in that year
abbrev pub date_of : (year month day : ℕ) → Option CivilDate
date_of year month day =
    if is_between 1 (days_in_month (pos year) month) day then Some (record { year = year; month = month; day = day }) else None

-- THE DATE OF A DAY NUMBER

-- how many of the numbers from 1 to n pass a test
unfoldable pub count_to : ℕ → (ℕ → Bool) → ℕ
count_to zero passes = 0
count_to (suc n) passes = if passes (suc n) then suc (count_to n passes) else count_to n passes

-- whether a day isn't before another
abbrev pub has_come : ℤ → ℤ → Bool
has_come first day = int_le first day

-- the year of a day: how many years have begun since the year 0
abbrev pub year_at : ℤ → ℕ
year_at day = count_to 9999 (λ year. has_come (days_from_civil (pos year) 1 1) day)

-- the month of a day: how many months of its year have begun
abbrev pub month_at : (year : ℕ) → ℤ → ℕ
month_at year day = count_to 12 (λ month. has_come (days_from_civil (pos year) month 1) day)

-- the day of the month
abbrev pub day_at : (year month : ℕ) → ℤ → ℕ
day_at year month day = unsigned_abs (day -ℤ days_from_civil (pos year) month 1) + 1

-- the date of a day number
abbrev pub date_at : ℤ → CivilDate
date_at day = record { year = year_at day; month = month_at (year_at day) day; day = day_at (year_at day) (month_at (year_at day) day) day }

-- whether a day lies in the years 0 to 9999
abbrev pub is_in_years : ℤ → Bool
is_in_years day = has_come (days_from_civil (pos 0) 1 1) day && has_come day (days_from_civil (pos 9999) 12 31)

-- the date after another
abbrev pub next_date : CivilDate → CivilDate
next_date date =
    if nat_lt date.day (days_in_month (pos date.year) date.month) then record { year = date.year; month = date.month; day = date.day + 1 }
    else if nat_lt date.month 12 then record { year = date.year; month = date.month + 1; day = 1 }
    else record { year = date.year + 1; month = 1; day = 1 }

-- the weekday of a day, from 0 for Sunday
abbrev pub weekday_at : ℤ → ℕ
weekday_at day = (weekday_number day + 1) % 7
