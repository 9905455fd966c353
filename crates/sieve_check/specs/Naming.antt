-- The names of variables that a script's text writes, in order (RFC 5229, section 4; RFC 6609,
-- section 3.4.1). Those that are set are found from all names that are written, not from those that
-- are set so far.
use Rattle.std.specs.Prelude.{◌≡◌, ⊤, ℕ, Bool, true, false, not, List, [], ◌∷◌, ◌++◌, map, drop, Option, Some, None, if◌then◌else◌}
use Rattle.std.specs.List.{before_last, filter, flat_map}
use Rattle.std.specs.Str.{str_eq_ignore_ascii_case}
use Rattle.sieve_syntax.specs.Tree.{Argument, strings, number, tag}
use Rattle.sieve_script.specs.Role.{first_role}
use Rattle.sieve_table.specs.Role.{has_role}
use Rattle.sieve_check.specs.Element.{Element, the_command, the_test, the_text, the_number}
use Rattle.sieve_check.specs.Said.{said_arguments}
use Rattle.sieve_profile.specs.Profile.{Profile}
use Rattle.sieve_table.specs.Required.{Required}
use Rattle.sieve_script.specs.Shape.{known_labels}
use Rattle.sieve_table.specs.Known.{known_command}
use Rattle.sieve_script.specs.declared.label.Label.{Label}
use Rattle.sieve_table.specs.Table.{command_row}
use Rattle.sieve_table.specs.declared.row.Role.{Role}
use Rattle.sieve_table.specs.declared.row.Role.TheVariants.{NameToSet, NamesToDeclare}
use Rattle.sieve_table.specs.declared.table.CommandKind.{CommandKind}
use Rattle.sieve_variables.specs.Name.{is_identifier}

-- NAMES THAT ARE WRITTEN

-- a name that the text writes to set its variable, or to declare it to be shared
pub data Mention : Type 0 where
  sets : (name : List ℕ) → Mention
  declares : (name : List ℕ) → Mention

-- the strings of an argument
abbrev pub octets_in : Argument → List (List ℕ)
octets_in (strings items bracketed) = map (λ t. t.string) items
octets_in (number value line) = []
octets_in (tag name line) = []

-- the strings of those arguments that stand in a role
abbrev pub names_in_role : Role → List Label → List Argument → List (List ℕ)
names_in_role wanted labels [] = []
names_in_role wanted labels (a ∷ args) = (if has_role wanted (first_role labels) then octets_in a else []) ++ names_in_role wanted (drop 1 labels) args

-- the names that arguments write, by their labels; none both sets and declares
abbrev pub label_mentions : List Label → List Argument → List Mention
label_mentions labels args = map sets (names_in_role NameToSet labels args) ++ map declares (names_in_role NamesToDeclare labels args)

-- the names that a command writes, by the octets that its strings say
abbrev pub command_mentions : Profile → Required → Option CommandKind → List Argument → List Mention
command_mentions profile required None args = []
command_mentions profile required (Some kind) args = label_mentions (known_labels profile (command_row kind) args) (said_arguments required (known_labels profile (command_row kind) args) args)

-- VARIABLES THAT ARE SET

-- names but for one; names ignore the case of ASCII (RFC 5229, section 3)
abbrev pub without_name : List ℕ → List (List ℕ) → List (List ℕ)
without_name name names = filter (λ other. not (str_eq_ignore_ascii_case name other)) names

-- The variables of the script that such mentions set, as they are first written. An identifier that
-- is written to be set is one of them. After it come those that the rest sets, without this name.
-- After a declaration come those that the rest sets, without the declared name.
abbrev pub set_by : List Mention → List (List ℕ)
set_by [] = []
set_by (sets name ∷ rest) = if is_identifier name then name ∷ without_name name (set_by rest) else set_by rest
set_by (declares name ∷ rest) = without_name name (set_by rest)

-- AMONG ELEMENTS

-- the names that are written by the commands among elements
abbrev pub element_mentions : Element → List Mention
element_mentions (the_command context name line args ts ending) = command_mentions context.profile context.required (known_command context.profile name) args
element_mentions other = []

abbrev pub mentions_in : List Element → List Mention
mentions_in elements = flat_map element_mentions elements

abbrev pub is_command : Element → Bool
is_command (the_command context name line args ts ending) = true
is_command other = false

-- BEFORE A PLACE

-- Where a command stands after these elements, exactly the variables are set that the names written
-- before it set. The same holds where its tests and strings stand. So the names that the command
-- writes itself count only after it.
abbrev pub HasSetBefore : (before : List Element) → Element → Type 0
HasSetBefore before (the_command context name line args ts ending) = context.scope.assigned ≡ set_by (mentions_in before)
HasSetBefore before (the_test context name line args ts) = context.scope.assigned ≡ set_by (mentions_in (before_last is_command before))
HasSetBefore before (the_text context role text) = context.scope.assigned ≡ set_by (mentions_in (before_last is_command before))
HasSetBefore before (the_number value line) = ⊤
