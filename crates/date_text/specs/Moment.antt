-- Moments, and dates and times of day in a zone.
use Rattle.std.specs.Prelude.{ℕ, ℤ, pos, ◌+ℤ◌, ◌-ℤ◌, ◌*ℤ◌, unsigned_abs}
use Rattle.std.specs.Int.{int_div_euclid, int_rem_euclid}
use Rattle.date_text.specs.Zone.{Zone, shift_of}

-- The minutes since 1970-01-01 00:00 UTC, the second of the minute, and the zone in which the
-- moment was written. The second is 60 where a leap second is put in.
pub record Moment : Type 0 where
  pub minutes : ℤ
  pub second : ℕ
  pub zone : Zone

-- the moment of a day and a minute of the day, as a zone has them
abbrev pub moment_at : (day : ℤ) (minute second : ℕ) → Zone → Moment
moment_at day minute second zone = record { minutes = day *ℤ pos 1440 +ℤ pos minute -ℤ shift_of zone; second = second; zone = zone }

-- the minutes of a moment, as the clocks of a zone have them
abbrev pub minutes_in : Moment → Zone → ℤ
minutes_in moment zone = moment.minutes +ℤ shift_of zone

-- the day of a moment in a zone
abbrev pub day_in : Moment → Zone → ℤ
day_in moment zone = int_div_euclid (minutes_in moment zone) (pos 1440)

-- the minute of the day of a moment in a zone
abbrev pub minute_in : Moment → Zone → ℕ
minute_in moment zone = unsigned_abs (int_rem_euclid (minutes_in moment zone) (pos 1440))
