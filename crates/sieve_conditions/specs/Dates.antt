-- The parts of a moment that tests of dates show (RFC 5260, 4 and 5).
use Rattle.std.specs.Prelude.{ℕ, List, Option, None, Some}
use Rattle.std.specs.Option.{option_and_then}
use Rattle.date_text.specs.Clock.{Clock}
use Rattle.date_text.specs.Moment.{Moment}
use Rattle.date_text.specs.Part.{part_named}
use Rattle.date_text.specs.Shown.{shown}
use Rattle.date_text.specs.Zone.{Zone, east, zone_named}
use Rattle.sieve_script.specs.Reading.{DateZone, local_zone, original_zone, named_zone}
use Rattle.sieve_variables.specs.Part.{Part}
use Rattle.sieve_variables.specs.Value.{Values, text_value}

-- the local zone: that of the clock, or UTC if there is no clock
abbrev pub local_zone_of : Option Clock → Zone
local_zone_of None = east 0
local_zone_of (Some clock) = clock.zone

-- The zone in which a date is shown that was written in some zone. A text names a zone by a sign
-- and four digits, of which the minutes are up to 59. Any other text names none (RFC 5260, 4.1).
abbrev pub zone_for : Values → Option Clock → (written : Zone) → DateZone → Option Zone
zone_for values clock written local_zone = Some (local_zone_of clock)
zone_for values clock written original_zone = Some written
zone_for values clock written (named_zone zone) = zone_named (text_value values zone)

-- That part of a moment, in the zone in which it is shown. There is none without such a part and
-- such a zone. There is none if the date there lies outside the years 0 to 9999.
abbrev pub part_of_moment : Values → Option Clock → DateZone → (part : List Part) → Moment → Option (List ℕ)
part_of_moment values clock zone part moment =
    option_and_then (λ in_zone. option_and_then (shown moment in_zone) (part_named (text_value values part))) (zone_for values clock moment.zone zone)
