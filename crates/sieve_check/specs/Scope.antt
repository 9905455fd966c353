-- The names of variables in a script's text up to a place. Its own are set (RFC 5229, section 4),
-- and others are declared to be shared (RFC 6609, section 3.4.1).
use Rattle.octets.specs.Octet.{is_among}
use Rattle.std.specs.Prelude.{ℕ, Bool, not, ◌&&◌, List, [], ◌∷◌, ◌++◌, Option, drop, if◌then◌else◌}
use Rattle.std.specs.List.{list_any}
use Rattle.std.specs.Str.{str_eq_ignore_ascii_case}
use Rattle.sieve_syntax.specs.Tree.{Text, Argument, strings, number, tag}
use Rattle.sieve_variables.specs.Name.{folded_name, is_identifier}
use Rattle.sieve_variables.specs.Variable.{with_name}
use Rattle.sieve_script.specs.Role.{first_role}
use Rattle.sieve_table.specs.Role.{has_role}
use Rattle.sieve_script.specs.declared.label.Label.{Label}
use Rattle.sieve_table.specs.declared.row.Role.{Role}
use Rattle.sieve_table.specs.declared.row.Role.TheVariants.{NameToSet, NamesToDeclare}

pub record Scope : Type 0 where
  -- the variables of the script that are set, each once, as they were first written
  pub assigned : List (List ℕ)
  -- the names that are declared, each once, in lower case
  pub declared : List (List ℕ)

-- the scope at the start of a script
abbrev pub no_names : Scope
no_names = record { assigned = []; declared = [] }

-- NAMES THAT ARE DECLARED

-- The declared names, with those in strings. A declaration counts from its place in the text to the
-- end of its script. It counts whether its command runs or not.
abbrev pub declaring_texts : List (List ℕ) → List Text → List (List ℕ)
declaring_texts declared [] = declared
declaring_texts declared (t ∷ ts) = declaring_texts (with_name (folded_name t.string) declared) ts

-- the declared names, with those in an argument whose role is to declare them
abbrev pub declaring_argument : List (List ℕ) → Option Role → Argument → List (List ℕ)
declaring_argument declared role (strings items bracketed) = if has_role NamesToDeclare role then declaring_texts declared items else declared
declaring_argument declared role (number value line) = declared
declaring_argument declared role (tag name line) = declared

-- the declared names, with those in arguments, each by its label
abbrev pub declaring_arguments : List (List ℕ) → List Label → List Argument → List (List ℕ)
declaring_arguments declared labels [] = declared
declaring_arguments declared labels (a ∷ args) = declaring_arguments (declaring_argument declared (first_role labels) a) (drop 1 labels) args

-- VARIABLES THAT ARE SET

-- Whether the script sets a variable of its own under a name. Names ignore the case of ASCII
-- (RFC 5229, section 3).
abbrev pub is_assigned : List ℕ → Scope → Bool
is_assigned name scope = list_any (str_eq_ignore_ascii_case name) scope.assigned

-- the name of a variable of the script that isn't set yet
abbrev pub is_new_local : List ℕ → Scope → Bool
is_new_local name scope = is_identifier name && (not (is_among (folded_name name) scope.declared) && not (is_assigned name scope))

-- the names of a scope, with a name that is to be set, where it is a new variable's
unfoldable pub assigning : Scope → List ℕ → Scope
assigning scope name = if is_new_local name scope then record scope { assigned = scope.assigned ++ name ∷ [] } else scope

-- the names of a scope, with those in strings that are to be set
abbrev pub assigning_texts : Scope → List Text → Scope
assigning_texts scope [] = scope
assigning_texts scope (t ∷ ts) = assigning_texts (assigning scope t.string) ts

-- the names of a scope, with those in an argument whose role is to set them
abbrev pub assigning_argument : Scope → Option Role → Argument → Scope
assigning_argument scope role (strings items bracketed) = if has_role NameToSet role then assigning_texts scope items else scope
assigning_argument scope role (number value line) = scope
assigning_argument scope role (tag name line) = scope

-- the names of a scope, with those that arguments set, each by its label
abbrev pub assigning_arguments : Scope → List Label → List Argument → Scope
assigning_arguments scope labels [] = scope
assigning_arguments scope labels (a ∷ args) = assigning_arguments (assigning_argument scope (first_role labels) a) (drop 1 labels) args

-- BOTH

abbrev pub with_declared : Scope → List Label → List Argument → Scope
with_declared scope labels args = record scope { declared = declaring_arguments scope.declared labels args }

-- the names of a scope after the arguments of a command
abbrev pub naming_arguments : Scope → List Label → List Argument → Scope
naming_arguments scope labels args = with_declared (assigning_arguments scope labels args) labels args
