-- The names of scripts: their order and their equality, as the derives compute them, and the
-- words of their locations.
use Rattle.std.specs.Prelude.{Bool, true, false, ◌&&◌, ℕ, List, nat_eq, codes}
use Rattle.std.specs.Ordering.{nat_cmp, ordering_then}
use Rattle.std.specs.Cmp.Lexicographic.{slice_cmp}
use Rattle.std.specs.declared.cmp.Ordering.{Ordering}
use Rattle.std.specs.declared.cmp.Ordering.TheVariants.{Less, Equal, Greater}
use lib.Pointwise.{pointwise}
use Rattle.script_names.specs.declared.location.Location.{Location}
use Rattle.script_names.specs.declared.location.Location.TheVariants.{Personal, Global}
use Rattle.script_names.specs.declared.name.ScriptName.{ScriptName}

-- the personal location comes before the global one (RFC 6609, 3.2)
abbrev pub location_cmp : Location → Location → Ordering
location_cmp Personal Personal = Equal
location_cmp Personal Global = Less
location_cmp Global Personal = Greater
location_cmp Global Global = Equal

-- the order of names: by location, and then by octets
abbrev pub name_cmp : ScriptName → ScriptName → Ordering
name_cmp a b = ordering_then (location_cmp a.location b.location) (slice_cmp nat_cmp a.name b.name)

abbrev pub location_eq : Location → Location → Bool
location_eq Personal Personal = true
location_eq Personal Global = false
location_eq Global Personal = false
location_eq Global Global = true

-- whether two names have the same location and the same octets
abbrev pub name_eq : ScriptName → ScriptName → Bool
name_eq a b = location_eq a.location b.location && pointwise nat_eq a.name b.name

-- the word of a location
abbrev pub location_word : Location → List ℕ
location_word Personal = codes "personal"
location_word Global = codes "global"
