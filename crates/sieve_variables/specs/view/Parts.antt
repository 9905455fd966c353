-- The model of the parts of a string.
use Rattle.std.specs.Prelude.{List, [], ◌∷◌, Option, Some, None}
use Rattle.sieve_variables.specs.Part.{Part}
use Rattle.sieve_variables.specs.declared.parts.Run as runs
use Rattle.sieve_variables.specs.declared.parts.Run.TheVariants as run

abbrev pub parts_of : runs.Run → List Part
parts_of run.None = []
parts_of (run.One part) = part ∷ []
parts_of (run.Several parts) = parts.value.items

-- the part, if there is one alone
abbrev pub one_part : List Part → Option Part
one_part [] = None
one_part (part ∷ []) = Some part
one_part (part ∷ next ∷ parts) = None
