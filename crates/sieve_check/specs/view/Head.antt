-- The heads of commands and tests of the program's tree: the element itself, and its arguments.
use Rattle.std.specs.Prelude.{map, List, ◌∷◌, ◌++◌, Some}
use Rattle.sieve_syntax.specs.view.Tree.{argument_of, block_of, tests_of}
use Rattle.sieve_syntax.specs.declared.tree.Command as commands
use Rattle.sieve_syntax.specs.declared.tree.Test as one_tests
use Rattle.sieve_check.specs.Breach.{Breach, breaches_by, breaches_in, command_breaks}
use Rattle.sieve_table.specs.Rule.{all_rules}
use Rattle.sieve_check.specs.Context.{Context}
use Rattle.sieve_check.specs.Element.{Element, the_command, the_test, command_arguments, test_arguments}
use Rattle.sieve_table.specs.Known.{known_command, known_test}
use Rattle.sieve_table.specs.declared.table.CommandKind.{CommandKind}

-- a test and its arguments
abbrev pub test_head : Context → one_tests.Test → List Element
test_head context t = let o = one_tests.out-Test t in the_test context o.name o.line (map argument_of o.args.items) (tests_of o.tests) ∷ test_arguments context (known_test context.profile o.name) (map argument_of o.args.items) (tests_of o.tests)

-- a command and its arguments
abbrev pub command_head : Context → commands.Command → List Element
command_head context c = let o = commands.out-Command c in the_command context o.name o.line (map argument_of o.args.items) (tests_of o.tests) (block_of o.block) ∷ command_arguments context (known_command context.profile o.name) (map argument_of o.args.items) (tests_of o.tests) (block_of o.block)

-- the rules that a command of a kind breaks itself, and then those of its arguments
abbrev pub kind_found : Context → CommandKind → commands.Command → List Breach
kind_found context kind c =
    let o = commands.out-Command c in
    breaches_by (command_breaks context (Some kind) (map argument_of o.args.items) (tests_of o.tests) (block_of o.block)) o.line all_rules
    ++ breaches_in (command_arguments context (Some kind) (map argument_of o.args.items) (tests_of o.tests) (block_of o.block))
