-- The grammar of Sieve (RFC 5228, 8.2), as the symbols that a tree writes.
use Rattle.std.specs.Prelude.{◌≡◌, ℕ, true, false, List, [], ◌∷◌, ◌++◌}
use Rattle.std.proofs.Common.{zero, suc}
use Rattle.sieve_syntax.specs.Tree.{Text, Argument, strings, number, tag, Test, test, Tests, no_tests, one_test, test_list, TestList, end_tests, more_tests, Command, command, Block, no_block, block, CommandList, end_commands, more_commands, command_list}
use Rattle.sieve_syntax.specs.Symbol.{Symbol, identifier, tag_symbol, number_symbol, string_symbol, semicolon, open_brace, close_brace, open_parenthesis, close_parenthesis, open_bracket, close_bracket, comma}

-- THE SYMBOLS THAT A TREE WRITES

-- strings with a comma before each
abbrev pub written_more : List Text → List Symbol
written_more [] = []
written_more (t ∷ ts) = comma ∷ string_symbol t.string t.line ∷ written_more ts

-- strings with a comma between each two
abbrev pub written_texts : List Text → List Symbol
written_texts [] = []
written_texts (t ∷ ts) = string_symbol t.string t.line ∷ written_more ts

-- argument = string-list | number | tag,
-- string-list = string | "[" string ("," string)* "]" (RFC 5228, 8.2)
abbrev pub written_argument : Argument → List Symbol
written_argument (strings items true) = open_bracket ∷ written_texts items ++ close_bracket ∷ []
written_argument (strings items false) = written_texts items
written_argument (number value line) = number_symbol value line ∷ []
written_argument (tag name line) = tag_symbol name line ∷ []

abbrev pub written_arguments : List Argument → List Symbol
written_arguments [] = []
written_arguments (a ∷ rest) = written_argument a ++ written_arguments rest

unfoldable mutual
  -- test = identifier arguments (RFC 5228, 8.2)
  pub written_test : Test → List Symbol
  written_test (test name line args ts) = identifier name line ∷ written_arguments args ++ written_tests ts

  -- [ test | test-list ] (RFC 5228, 8.2)
  pub written_tests : Tests → List Symbol
  written_tests no_tests = []
  written_tests (one_test t) = written_test t
  written_tests (test_list ts) = open_parenthesis ∷ written_test_list ts

  -- the first test of a list in parentheses, and the rest after it
  pub written_test_list : TestList → List Symbol
  written_test_list end_tests = close_parenthesis ∷ []
  written_test_list (more_tests t ts) = written_test t ++ written_test_rest ts

  -- the other tests of such a list, each after a comma
  pub written_test_rest : TestList → List Symbol
  written_test_rest end_tests = close_parenthesis ∷ []
  written_test_rest (more_tests t ts) = comma ∷ written_test t ++ written_test_rest ts

unfoldable mutual
  -- command = identifier arguments ( ";" | block ) (RFC 5228, 8.2)
  pub written_command : Command → List Symbol
  written_command (command name line args ts ending) = identifier name line ∷ written_arguments args ++ written_tests ts ++ written_block ending

  -- block = "{" commands "}" (RFC 5228, 8.2)
  pub written_block : Block → List Symbol
  written_block no_block = semicolon ∷ []
  written_block (block ns) = open_brace ∷ written_commands ns ++ close_brace ∷ []

  -- commands = command* (RFC 5228, 8.2)
  pub written_commands : CommandList → List Symbol
  written_commands end_commands = []
  written_commands (more_commands n ns) = written_command n ++ written_commands ns

-- THE TREES THAT ARE WRITTEN

-- a list in brackets has a string, and without brackets there is one
abbrev pub IsArgument : Argument → Type 0
IsArgument (strings [] bracketed) = ⊥
IsArgument (strings (t ∷ []) bracketed) = Unit {0}
IsArgument (strings (t ∷ s ∷ ss) true) = Unit {0}
IsArgument (strings (t ∷ s ∷ ss) false) = ⊥
IsArgument (number value line) = Unit {0}
IsArgument (tag name line) = Unit {0}

abbrev pub AreArguments : List Argument → Type 0
AreArguments [] = Unit {0}
AreArguments (a ∷ rest) = IsArgument a × AreArguments rest

unfoldable mutual
  -- the test's own tests may go `depth` deeper
  pub NestsTest : Test → ℕ → Type 0
  NestsTest (test name line args ts) depth = AreArguments args × NestsTests ts depth

  -- tests stand only where there is depth for them, and a list has a test
  pub NestsTests : Tests → ℕ → Type 0
  NestsTests no_tests depth = Unit {0}
  NestsTests (one_test t) zero = ⊥
  NestsTests (one_test t) (suc depth) = NestsTest t depth
  NestsTests (test_list end_tests) depth = ⊥
  NestsTests (test_list (more_tests t ts)) zero = ⊥
  NestsTests (test_list (more_tests t ts)) (suc depth) = NestsTest t depth × NestsTestList ts depth

  pub NestsTestList : TestList → ℕ → Type 0
  NestsTestList end_tests depth = Unit {0}
  NestsTestList (more_tests t ts) depth = NestsTest t depth × NestsTestList ts depth

unfoldable mutual
  -- the tests go no deeper than `depth`, and at most `room` blocks are open at once
  pub NestsCommand : ℕ → Command → ℕ → Type 0
  NestsCommand depth (command name line args ts ending) room = AreArguments args × NestsTests ts depth × NestsBlock depth ending room

  pub NestsBlock : ℕ → Block → ℕ → Type 0
  NestsBlock depth no_block room = Unit {0}
  NestsBlock depth (block ns) zero = ⊥
  NestsBlock depth (block ns) (suc room) = NestsCommands depth ns room

  pub NestsCommands : ℕ → CommandList → ℕ → Type 0
  NestsCommands depth end_commands room = Unit {0}
  NestsCommands depth (more_commands n ns) room = NestsCommand depth n room × NestsCommands depth ns room

-- The tree writes the symbols. Its tests go no deeper than `depth`, and at most `room` blocks are
-- open at once.
abbrev pub WritesSymbols : ℕ → ℕ → List Command → List Symbol → Type 0
WritesSymbols depth room tree symbols = NestsCommands depth (command_list tree) room × (symbols ≡ written_commands (command_list tree))

-- the symbols are the front of those that a tree writes
abbrev pub BeginsAt : ℕ → ℕ → List Symbol → Type 0
BeginsAt depth room symbols = (more : List Symbol) × (tree : List Command) × WritesSymbols depth room tree (symbols ++ more)
