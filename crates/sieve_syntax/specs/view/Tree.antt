-- The models of the program's tree of a text.
use Rattle.std.specs.Prelude.{Option, Some, None, map}
use Rattle.std.specs.declared.vec.Vec.{Vec}
use Rattle.std.specs.declared.alloc.Global.{Global}
use Rattle.sieve_syntax.specs.Tree.{Text, Argument, strings, number, tag, Test, test, Tests, no_tests, one_test, test_list, tests, Command, command, Block, no_block, block, command_list}
use Rattle.sieve_syntax.specs.declared.tree.Argument as arguments
use Rattle.sieve_syntax.specs.declared.tree.Command as commands
use Rattle.sieve_syntax.specs.declared.tree.Test as one_tests
use Rattle.sieve_syntax.specs.declared.tree.Tests as some_tests
use Rattle.sieve_syntax.specs.declared.tree.Text as texts
use Rattle.sieve_syntax.specs.declared.tree.Argument.TheVariants as argument_variants
use Rattle.sieve_syntax.specs.declared.tree.Tests.TheOpen as test_layers

abbrev pub text_of : texts.Text → Text
text_of t = record { string = t.string.items; line = t.line }

abbrev pub argument_of : arguments.Argument → Argument
argument_of (argument_variants.Strings items bracketed) = strings (map text_of items.items) bracketed
argument_of (argument_variants.Number value line) = number value line
argument_of (argument_variants.Tag name line) = tag name.items line

-- one layer of tests, over the models of the tests below it
abbrev pub tests_step : test_layers.Tests-F Tests Test → Tests
tests_step test_layers.None = no_tests
tests_step (test_layers.One t) = one_test t.value
tests_step (test_layers.List ts) = test_list (tests ts.value.items)

abbrev pub test_step : test_layers.Test-F Tests Test → Test
test_step t = test t.name t.line (map argument_of t.args.items) t.tests

abbrev pub tests_of : some_tests.Tests → Tests
tests_of = some_tests.fold-Tests Tests Test tests_step test_step

abbrev pub test_of : one_tests.Test → Test
test_of = one_tests.fold-Test Tests Test tests_step test_step

abbrev pub block_step : Option (Vec Command Global) → Block
block_step None = no_block
block_step (Some v) = block (command_list v.items)

-- one layer of commands, over the models of the commands in its block
abbrev pub command_step : commands.Command-F Command → Command
command_step c = command c.name c.line (map argument_of c.args.items) (tests_of c.tests) (block_step c.block)

abbrev pub command_as : commands.Command → Command
command_as = commands.fold-Command Command command_step

abbrev pub block_of : Option (Vec commands.Command Global) → Block
block_of None = no_block
block_of (Some v) = block (command_list (map command_as v.items))
