-- The program's moments, zones and dates.
use Rattle.std.specs.Prelude.{unsigned_abs}
use Rattle.jiff_core.specs.declared.civil.date.Date as dates
use Rattle.date_text.specs.Calendar.{CivilDate}
use Rattle.date_text.specs.Moment.{Moment}
use Rattle.date_text.specs.Zone.{Zone}
use Rattle.date_text.specs.declared.moment.Moment as moments
use Rattle.date_text.specs.declared.zone.Zone as zones

abbrev pub zone_as : zones.Zone → Zone
zone_as zone = record { west = zone.west; minutes = zone.minutes }

abbrev pub moment_as : moments.Moment → Moment
moment_as moment = record { minutes = moment.minutes; second = moment.second; zone = zone_as moment.zone }

abbrev pub date_as : dates.Date → CivilDate
date_as date = record { year = unsigned_abs date.year; month = date.month; day = date.day }
