-- Things in a script that a bench of a profile doesn't know.
use Rattle.std.specs.Prelude.{ℕ, Bool, true, false, not, ◌&&◌, ◌||◌, List, Option, Some, None, is_none}
use Rattle.std.specs.List.{list_any}
use Rattle.sieve_profile.specs.Profile.{Profile}
use Rattle.sieve_syntax.specs.Tree.{Argument}
use Rattle.sieve_check.specs.Collating.{known_collation}
use Rattle.sieve_check.specs.Context.{Context}
use Rattle.sieve_check.specs.Said.{said}
use Rattle.sieve_check.specs.Element.{Element, the_command, the_test, the_text, the_number}
use Rattle.sieve_script.specs.Shape.{shapes_of}
use Rattle.sieve_script.specs.declared.label.Shape.{Shape}
use Rattle.sieve_script.specs.declared.label.Shape.TheVariants as shape
use Rattle.sieve_table.specs.Known.{is_known_row, is_known_tag, may_be_required}
use Rattle.sieve_table.specs.Role.{has_role}
use Rattle.sieve_table.specs.Table.{Row, command_named, command_row, test_named, test_row}
use Rattle.sieve_table.specs.declared.row.Role.TheVariants.{Capabilities, ComparatorName}
use Rattle.sieve_table.specs.declared.row.Role.{Role}
use Rattle.sieve_table.specs.declared.table.CommandKind.{CommandKind}
use Rattle.sieve_table.specs.declared.table.TestKind.{TestKind}

-- a tag that the row doesn't take, or that isn't known
abbrev pub is_absent_tag : Profile → Shape → Bool
is_absent_tag profile shape.Text = false
is_absent_tag profile shape.Texts = false
is_absent_tag profile shape.Number = false
is_absent_tag profile (shape.Tag None) = true
is_absent_tag profile (shape.Tag (Some tag)) = not (is_known_tag profile tag)

-- a use of a row that needs a capability that isn't known, or has a tag that is absent
abbrev pub row_lacks : Profile → Row → List Argument → Bool
row_lacks profile row args = not (is_known_row profile row) || list_any (is_absent_tag profile) (shapes_of row.tags args)

-- a command or a test of a name that none has, or whose use of a row lacks something
abbrev pub command_lacks : Profile → Option CommandKind → List Argument → Bool
command_lacks profile None args = true
command_lacks profile (Some kind) args = row_lacks profile (command_row kind) args

abbrev pub test_lacks : Profile → Option TestKind → List Argument → Bool
test_lacks profile None args = true
test_lacks profile (Some kind) args = row_lacks profile (test_row kind) args

-- A string of a leading `require` that may not be required. It names no capability that is known.
-- With `unused` it also names one whose use no word shows.
abbrev pub capability_lacks : Profile → Context → Option Role → List ℕ → Bool
capability_lacks profile context role octets = has_role Capabilities role && (context.leads && not (may_be_required profile octets))

-- a string that names no comparator that is known
abbrev pub comparator_lacks : Profile → Option Role → List ℕ → Bool
comparator_lacks profile role octets = has_role ComparatorName role && is_none (known_collation profile octets)

-- the octets that a string says, where it says any
abbrev pub said_lacks : Profile → Context → Option Role → Option (List ℕ) → Bool
said_lacks profile context role None = false
said_lacks profile context role (Some octets) = capability_lacks profile context role octets || comparator_lacks profile role octets

-- Whether an element has something that isn't known. It is a command or a test that doesn't
-- exist, needs an unknown capability, or has an unknown tag. Or it is a string that names an
-- unknown capability or comparator.
abbrev pub lacks : Profile → Element → Bool
lacks profile (the_command context name line args ts ending) = command_lacks profile (command_named name) args
lacks profile (the_test context name line args ts) = test_lacks profile (test_named name) args
lacks profile (the_text context role text) = said_lacks profile context role (said context.required role text.string)
lacks profile (the_number value line) = false
