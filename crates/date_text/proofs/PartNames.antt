-- The names of parts of a date.
use Rattle.std.proofs.Common.{◌≡◌, ℕ, List, [], ◌∷◌, is_some, codes}
use Rattle.std.specs.List.{list_any}
use Rattle.std.specs.Str.{str_eq_ignore_ascii_case}
use Rattle.octets.proofs.Both.{is_some_find}
use Rattle.date_text.specs.Part.{part_name, part_named, parts}
use Rattle.date_text.specs.declared.part.DatePart.{DatePart}

pub parts_known : (name : List ℕ) → is_some (part_named name) ≡ list_any (λ known. str_eq_ignore_ascii_case known name)
    (codes "year" ∷ codes "month" ∷ codes "day" ∷ codes "date" ∷ codes "julian" ∷ codes "hour" ∷ codes "minute" ∷ codes "second" ∷ codes "time" ∷ codes "iso8601" ∷ codes "std11" ∷ codes "zone" ∷ codes "weekday" ∷ [])
parts_known name = is_some_find (λ part. str_eq_ignore_ascii_case (part_name part) name) parts
