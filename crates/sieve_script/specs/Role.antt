-- The role of an argument, by its label.
use Rattle.std.specs.Prelude.{List, [], ◌∷◌, Option, Some, None}
use Rattle.sieve_script.specs.declared.label.Label.{Label}
use Rattle.sieve_script.specs.declared.label.Label.TheVariants.{Own, InSlot}
use Rattle.sieve_table.specs.declared.row.Role.{Role}

-- the role of an argument; tags and arguments that don't fit have none
abbrev pub role_of : Label → Option Role
role_of (Own slot) = Some slot.role
role_of (InSlot slot) = Some slot.role
role_of other = None

-- the role of the first of some arguments; without a label it has none
abbrev pub first_role : List Label → Option Role
first_role [] = None
first_role (label ∷ labels) = role_of label
