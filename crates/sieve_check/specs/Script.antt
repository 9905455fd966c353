-- The abstract script of a text's tree. A command and a test are read by the labels by which they
-- are judged. Their strings are cut by the context before them.
use Rattle.std.specs.Prelude.{List, Option}
use Rattle.std.specs.Option.{option_map}
use Rattle.sieve_profile.specs.Profile.{Profile}
use Rattle.sieve_syntax.specs.Tree.{Argument, Test, test, Tests, no_tests, one_test, test_list, TestList, end_tests, more_tests, Command, command, Block, no_block, block, CommandList, end_commands, more_commands, command_list}
use Rattle.sieve_check.specs.Context.{Context, after, after_kind, inside, script_start}
use Rattle.sieve_check.specs.Cut.{cut_row}
use Rattle.sieve_script.specs.CommandReading.{command_reading_by}
use Rattle.sieve_script.specs.Reading.{CommandReading, TestReading}
use Rattle.sieve_script.specs.Script.{Chain, Commands, Condition, Conditions, chain_with_command, first_condition, joined, no_branches, no_commands, no_conditions, one_condition}
use Rattle.sieve_script.specs.Shape.{known_labels}
use Rattle.sieve_script.specs.TestReading.{test_reading_by}
use Rattle.sieve_table.specs.Known.{known_command, known_test}
use Rattle.sieve_table.specs.Table.{command_row, test_row}
use Rattle.sieve_table.specs.declared.table.CommandKind.{CommandKind}
use Rattle.sieve_table.specs.declared.table.TestKind.{TestKind}

-- the readings of a test and of a command of a kind
abbrev pub test_kind_reading : Context → TestKind → List Argument → TestReading
test_kind_reading context kind args = test_reading_by kind (known_labels context.profile (test_row kind) args) (cut_row context (test_row kind) args)

abbrev pub command_kind_reading : Context → CommandKind → List Argument → CommandReading
command_kind_reading context kind args = command_reading_by kind (known_labels context.profile (command_row kind) args) (cut_row context (command_row kind) args)

-- the same, where they are of a kind that is known; otherwise there is none
abbrev pub test_reading : Context → Option TestKind → List Argument → Option TestReading
test_reading context kind args = option_map (λ k. test_kind_reading context k args) kind

abbrev pub command_reading : Context → Option CommandKind → List Argument → Option CommandReading
command_reading context kind args = option_map (λ k. command_kind_reading context k args) kind

-- TESTS

unfoldable mutual
  pub condition_of : Context → Test → Condition
  condition_of context (test name line args ts) = joined (test_reading context (known_test context.profile name) args) (conditions_in context ts)

  pub conditions_in : Context → Tests → Conditions
  conditions_in context no_tests = no_conditions
  conditions_in context (one_test t) = one_condition (condition_of context t) no_conditions
  conditions_in context (test_list ts) = conditions context ts

  pub conditions : Context → TestList → Conditions
  conditions context end_tests = no_conditions
  conditions context (more_tests t ts) = one_condition (condition_of context t) (conditions context ts)

-- COMMANDS

-- the reading of a command
abbrev pub reading_of : Context → Command → Option CommandReading
reading_of context (command name line args ts ending) = command_reading context (known_command context.profile name) args

unfoldable mutual
  pub chain_with : Context → Command → Chain → Chain
  chain_with context (command name line args ts ending) chain =
      chain_with_command (command_reading context (known_command context.profile name) args) line (first_condition (conditions_in context ts)) (block_commands (after_kind context (known_command context.profile name) args) ending) chain

  pub block_commands : Context → Block → Commands
  block_commands context no_block = no_commands
  block_commands context (block ns) = (chain_of (inside context) ns).rest

  pub chain_of : Context → CommandList → Chain
  chain_of context end_commands = record { otherwise = no_branches; rest = no_commands }
  chain_of context (more_commands n ns) = chain_with context n (chain_of (after context n) ns)

-- the abstract script of a text's tree, where it is judged by a profile
abbrev pub script_of : Profile → List Command → Commands
script_of profile tree = (chain_of (script_start profile) (command_list tree)).rest
