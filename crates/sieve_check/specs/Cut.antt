-- The arguments of a text, with the octets that their strings say cut into parts (RFC 5229,
-- section 3). A string is cut by its role. One that names a variable is that variable. Any other is
-- one literal where `variables` isn't required, or where its role is never expanded. So is one
-- without a role. References in all others stand for values. A name that the text before a command
-- declares names a variable that scripts share (RFC 6609, section 3.4.1). The context under which a
-- command is judged stands for the text before it.
use Rattle.std.specs.Prelude.{ℕ, List, [], ◌∷◌, Option, map, drop, if◌then◌else◌}
use Rattle.sieve_syntax.specs.Tree.{Argument, strings, number, tag}
use Rattle.sieve_script.specs.CutArgument.{CutArgument, cut_strings, cut_number, cut_tag}
use Rattle.sieve_check.specs.Context.{Context, takes_references}
use Rattle.sieve_check.specs.Said.{said_arguments}
use Rattle.sieve_script.specs.Role.{first_role}
use Rattle.sieve_table.specs.Role.{names_variable}
use Rattle.sieve_script.specs.Shape.{known_labels}
use Rattle.sieve_table.specs.Table.{Row}
use Rattle.sieve_script.specs.declared.label.Label.{Label}
use Rattle.sieve_table.specs.declared.row.Role.{Role}
use Rattle.sieve_variables.specs.Part.{Part, literal, variable_part, scoped_part}
use Rattle.sieve_variables.specs.Scan.{parts_of_text}
use Rattle.sieve_variables.specs.Variable.{scoped, variable_named}

-- The parts of a string. Where it names a variable, they are that variable. Where
-- references stand for values, they are the octets and references in it. Otherwise they are
-- its octets, as one literal.
abbrev pub parts_in : Context → Option Role → List ℕ → List Part
parts_in context role octets =
    if names_variable role then variable_part (scoped context.scope.declared (variable_named octets)) ∷ [] else
    if takes_references context.required role then map (scoped_part context.scope.declared) (parts_of_text octets) else literal octets ∷ []

-- an argument in its role
abbrev pub cut_argument : Context → Option Role → Argument → CutArgument
cut_argument context role (strings items bracketed) = cut_strings (map (λ t. parts_in context role t.string) items)
cut_argument context role (number value line) = cut_number value
cut_argument context role (tag name line) = cut_tag

-- arguments, each by its label
abbrev pub cut_labelled : Context → List Label → List Argument → List CutArgument
cut_labelled context labels [] = []
cut_labelled context labels (a ∷ args) = cut_argument context (first_role labels) a ∷ cut_labelled context (drop 1 labels) args

-- the same, by the octets that their strings say
abbrev pub cut_said : Context → List Label → List Argument → List CutArgument
cut_said context labels args = cut_labelled context labels (said_arguments context.required labels args)

-- the arguments of a command or a test of a row
abbrev pub cut_row : Context → Row → List Argument → List CutArgument
cut_row context row args = cut_said context (known_labels context.profile row args) args
