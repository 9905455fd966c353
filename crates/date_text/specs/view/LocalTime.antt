-- The program's times in a zone.
use Rattle.date_text.specs.Shown.{LocalTime}
use Rattle.date_text.specs.declared.local_time.LocalTime as times
use Rattle.date_text.specs.view.Moment.{zone_as}

abbrev pub local_as : times.LocalTime → LocalTime
local_as l = record {
  date = record { year = l.year; month = l.month; day = l.day };
  weekday = l.weekday;
  day = l.number;
  minute = l.minute;
  second = l.second;
  zone = zone_as l.zone;
}
