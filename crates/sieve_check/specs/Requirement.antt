-- The capabilities that are required where an element of a script is judged
-- (RFC 5228, section 3.2).
use Rattle.std.specs.Prelude.{◌≡◌, ⊤, Bool, false, List, [], ◌∷◌, ◌++◌, Option, Some, None}
use Rattle.std.specs.List.{All, take_while}
use Rattle.sieve_profile.specs.Profile.{Profile}
use Rattle.sieve_syntax.specs.Tree.{Command, command}
use Rattle.sieve_check.specs.Context.{is_require, requiring_arguments}
use Rattle.sieve_check.specs.Element.{Element, the_command, the_test, the_text, the_number, elements_of}
use Rattle.sieve_table.specs.Required.{Required, nothing_required}
use Rattle.sieve_table.specs.Known.{known_command}
use Rattle.sieve_table.specs.declared.table.CommandKind.{CommandKind}

-- whether a command is a `require`
abbrev pub requires_kind : Option CommandKind → Bool
requires_kind None = false
requires_kind (Some kind) = is_require kind

abbrev pub is_require_command : Profile → Command → Bool
is_require_command profile (command name line args ts ending) = requires_kind (known_command profile name)

-- the `require` commands at the top of a script
abbrev pub leading_requires : Profile → List Command → List Command
leading_requires profile tree = take_while (is_require_command profile) tree

-- the required capabilities, with those that the strings of commands name
abbrev pub requiring_command : Required → Command → Required
requiring_command required (command name line args ts ending) = requiring_arguments required args

abbrev pub requiring_commands : Required → List Command → Required
requiring_commands required [] = required
requiring_commands required (n ∷ ns) = requiring_commands (requiring_command required n) ns

-- The capabilities that are required where a command, a test or a string is judged. A number
-- is judged alike everywhere.
abbrev pub IsJudgedUnder : Required → Element → Type 0
IsJudgedUnder required (the_command context name line args ts ending) = context.required ≡ required
IsJudgedUnder required (the_test context name line args ts) = context.required ≡ required
IsJudgedUnder required (the_text context role text) = context.required ≡ required
IsJudgedUnder required (the_number value line) = ⊤

-- The elements of a script are those of the `require` commands at its top, and then others.
-- At each command, test and string of the others, exactly the capabilities that those
-- commands name are required.
pub record JudgesAfterRequires (profile : Profile) (tree : List Command) : Type 0 where
  pub rest : List Element
  pub split : elements_of profile tree ≡ elements_of profile (leading_requires profile tree) ++ rest
  pub same : All (IsJudgedUnder (requiring_commands nothing_required (leading_requires profile tree))) rest
