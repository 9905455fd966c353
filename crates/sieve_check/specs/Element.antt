-- The elements of a script, which rules are about: its commands, tests, strings and numbers. They
-- are in the order in which its text writes them, each with its context.
use Rattle.std.specs.Prelude.{ℕ, Bool, true, false, List, [], ◌∷◌, ◌++◌, ◌||◌, Option, Some, None, drop}
use Rattle.std.specs.List.{list_any}
use Rattle.sieve_syntax.specs.Tree.{Command, command, CommandList, end_commands, more_commands, command_list, Block, no_block, block, Test, test, Tests, no_tests, one_test, test_list, TestList, end_tests, more_tests, Text, Argument, strings, number, tag}
use Rattle.sieve_check.specs.Context.{Context, script_start, inside, after, after_kind}
use Rattle.sieve_profile.specs.Profile.{Profile}
use Rattle.sieve_script.specs.Role.{first_role}
use Rattle.sieve_table.specs.Known.{known_command, known_test}
use Rattle.sieve_script.specs.Shape.{known_labels, known_shapes}
use Rattle.sieve_table.specs.Table.{Row, command_row, same_tag, test_row}
use Rattle.sieve_check.specs.Use.{is_well_used, has_block}
use Rattle.sieve_script.specs.declared.label.Label.{Label}
use Rattle.sieve_script.specs.declared.label.Label.TheVariants.{Tagged}
use Rattle.sieve_table.specs.declared.row.Role.{Role}
use Rattle.sieve_table.specs.declared.table.CommandKind.{CommandKind}
use Rattle.sieve_table.specs.declared.tag.Tag.TheVariants.{Contains, Matches}
use Rattle.sieve_table.specs.declared.table.TestKind.{TestKind}

-- A command, a test, a string in its role, or a number. A string has no role where no slot or tag
-- takes its argument. Nor has it one where its command or test isn't known, or isn't used as its
-- row says. Such a string isn't judged.
pub data Element : Type 0 where
  the_command : (context : Context) (name : List ℕ) (line : ℕ) (args : List Argument) (ts : Tests) (ending : Block) → Element
  the_test : (context : Context) (name : List ℕ) (line : ℕ) (args : List Argument) (ts : Tests) → Element
  the_text : (context : Context) (role : Option Role) (text : Text) → Element
  the_number : (value : Option ℕ) (line : ℕ) → Element

-- ARGUMENTS

abbrev pub text_elements : Context → Option Role → List Text → List Element
text_elements context role [] = []
text_elements context role (t ∷ ts) = the_text context role t ∷ text_elements context role ts

abbrev pub argument_elements : Context → Option Role → Argument → List Element
argument_elements context role (strings items bracketed) = text_elements context role items
argument_elements context role (number value line) = the_number value line ∷ []
argument_elements context role (tag name line) = []

-- arguments, each by its label
abbrev pub labelled_elements : Context → List Label → List Argument → List Element
labelled_elements context labels [] = []
labelled_elements context labels (a ∷ args) = argument_elements context (first_role labels) a ++ labelled_elements context (drop 1 labels) args

-- the labels by which arguments are judged; strings are judged only where all is as the row says
abbrev pub judged_labels : Bool → List Label → List Label
judged_labels true labels = labels
judged_labels false labels = []

-- a tag by which parts of values are found (RFC 5228, section 2.7.1)
abbrev pub finds_parts : Label → Bool
finds_parts (Tagged taken) = same_tag taken Contains || same_tag taken Matches
finds_parts other = false

-- the context of the strings among arguments of these labels
abbrev pub among : Context → List Label → Context
among context labels = record context { finds_parts = list_any finds_parts labels }

-- the arguments of a command or test of a row
abbrev pub row_elements : Context → Row → List Argument → Tests → (ends_by_block : Bool) → List Element
row_elements context row args ts ends_by_block = labelled_elements (among context (known_labels context.profile row args)) (judged_labels (is_well_used row (known_shapes context.profile row.tags args) ts ends_by_block) (known_labels context.profile row args)) args

abbrev pub test_arguments : Context → Option TestKind → List Argument → Tests → List Element
test_arguments context None args ts = labelled_elements context [] args
test_arguments context (Some kind) args ts = row_elements context (test_row kind) args ts false

abbrev pub command_arguments : Context → Option CommandKind → List Argument → Tests → Block → List Element
command_arguments context None args ts ending = labelled_elements context [] args
command_arguments context (Some kind) args ts ending = row_elements context (command_row kind) args ts (has_block ending)

-- TESTS

unfoldable mutual
  -- a test, its arguments, and its tests
  pub test_elements : Context → Test → List Element
  test_elements context (test name line args ts) = the_test context name line args ts ∷ test_arguments context (known_test context.profile name) args ts ++ tests_elements context ts

  pub tests_elements : Context → Tests → List Element
  tests_elements context no_tests = []
  tests_elements context (one_test t) = test_elements context t
  tests_elements context (test_list ts) = test_list_elements context ts

  pub test_list_elements : Context → TestList → List Element
  test_list_elements context end_tests = []
  test_list_elements context (more_tests t ts) = test_elements context t ++ test_list_elements context ts

-- COMMANDS

unfoldable mutual
  -- a command, its arguments, its tests, and its block
  pub command_elements : Context → Command → List Element
  command_elements context (command name line args ts ending) =
      the_command context name line args ts ending ∷ command_arguments context (known_command context.profile name) args ts ending ++ (tests_elements context ts ++ block_elements (after_kind context (known_command context.profile name) args) ending)

  pub block_elements : Context → Block → List Element
  block_elements context no_block = []
  block_elements context (block ns) = command_list_elements (inside context) ns

  pub command_list_elements : Context → CommandList → List Element
  command_list_elements context end_commands = []
  command_list_elements context (more_commands n ns) = command_elements context n ++ command_list_elements (after context n) ns

-- the elements of a script, in the order of its text, where it is judged by a profile
abbrev pub elements_of : Profile → List Command → List Element
elements_of profile tree = command_list_elements (script_start profile) (command_list tree)
