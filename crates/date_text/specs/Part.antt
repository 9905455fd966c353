-- The parts of a date by their names (RFC 5260, 4.2).
use Rattle.std.specs.Prelude.{ℕ, List, Option, find, codes}
use Rattle.std.specs.Str.{str_eq_ignore_ascii_case}
use Rattle.sieve_profile.specs.Every.{every}
use Rattle.date_text.specs.contracts.part.DatePart.{enum}
use Rattle.date_text.specs.declared.part.DatePart.{DatePart}
use Rattle.date_text.specs.declared.part.DatePart.TheVariants.{Date, Day, Hour, Iso8601, Julian, Minute, Month, Second, Std11, Time, Weekday, Year, Zone}

abbrev pub part_name : DatePart → List ℕ
part_name Year = codes "year"
part_name Month = codes "month"
part_name Day = codes "day"
part_name Date = codes "date"
part_name Julian = codes "julian"
part_name Hour = codes "hour"
part_name Minute = codes "minute"
part_name Second = codes "second"
part_name Time = codes "time"
part_name Iso8601 = codes "iso8601"
part_name Std11 = codes "std11"
part_name Zone = codes "zone"
part_name Weekday = codes "weekday"

-- all parts, in the order of the enum
abbrev pub parts : List DatePart
parts = every enum tt

-- the part of a name, in any case of letters
abbrev pub part_named : List ℕ → Option DatePart
part_named name = find (λ part. str_eq_ignore_ascii_case (part_name part) name) parts
