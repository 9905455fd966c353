-- Clocks: the time, and the zone in which it is shown.
use Rattle.std.specs.Prelude.{ℕ, ◌+◌, ◌*◌, ◌/◌, ◌%◌, pos, nat_le, List, [], ◌∷◌, Option, Some, None, if◌then◌else◌}
use Rattle.std.specs.Option.{option_and_then}
use Rattle.date_text.specs.Moment.{Moment}
use Rattle.date_text.specs.Number.{digit_number, up_to}
use Rattle.date_text.specs.Zone.{Zone, zone_named}

-- seconds since 1970-01-01 00:00 UTC, without leap seconds, and the zone of the clock
pub record Clock : Type 0 where
  pub seconds : ℕ
  pub zone : Zone

-- the last second of the year 9999 in UTC
abbrev pub last_second : ℕ
last_second = 253402300799

-- the clock that shows these seconds in a zone, if they aren't past the last second
abbrev pub clock_at : (seconds : ℕ) → Zone → Option Clock
clock_at seconds zone = if nat_le seconds last_second then Some (record { seconds = seconds; zone = zone }) else None

-- the moment that a clock shows
abbrev pub moment_of : Clock → Moment
moment_of clock = record { minutes = pos (clock.seconds / 60); second = clock.seconds % 60; zone = clock.zone }

-- AS IT IS WRITTEN

-- the number that digits spell after others, which spell the number before them
abbrev pub number_after : ℕ → List ℕ → Option ℕ
number_after n [] = Some n
number_after n (c ∷ rest) = option_and_then (λ d. number_after (10 * n + d) rest) (digit_number c)

-- the number that one digit or more spell; any number of zeros may stand first
abbrev pub number_named : List ℕ → Option ℕ
number_named [] = None
number_named (c ∷ rest) = number_after 0 (c ∷ rest)

-- the seconds that digits spell, up to the last one
abbrev pub seconds_named : List ℕ → Option ℕ
seconds_named digits = up_to last_second (number_named digits)

-- the clock of digits, which spell the seconds, and of the text of a zone
abbrev pub clock_named : (digits zone : List ℕ) → Option Clock
clock_named digits zone = option_and_then (λ seconds. option_and_then (clock_at seconds) (zone_named zone)) (seconds_named digits)
