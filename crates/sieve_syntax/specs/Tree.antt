-- The tree of a script by its grammar (RFC 5228, 8.2), as plain data. Its strings are the octets
-- that they stand for.
use Rattle.std.specs.Prelude.{ℕ, Bool, List, [], ◌∷◌, Option}

-- a string: the octets that it stands for, and the line where it begins
pub record Text : Type 0 where
  pub string : List ℕ
  pub line : ℕ

-- An argument: one string, a list of strings in brackets, a number or a tag. A number past 64 bits
-- has no value.
pub data Argument : Type 0 where
  strings : (items : List Text) (bracketed : Bool) → Argument
  number : (value : Option ℕ) (line : ℕ) → Argument
  tag : (name : List ℕ) (line : ℕ) → Argument

mutual
  -- a test: its identifier, the line of that, its arguments and its own tests
  pub data Test : Type 0 where
    test : (name : List ℕ) (line : ℕ) (args : List Argument) (tests : Tests) → Test

  -- the tests after arguments: none, one, or a list in parentheses
  pub data Tests : Type 0 where
    no_tests : Tests
    one_test : Test → Tests
    test_list : TestList → Tests

  -- a list of tests
  pub data TestList : Type 0 where
    end_tests : TestList
    more_tests : Test → TestList → TestList

mutual
  -- a command: its identifier, the line of that, its arguments, its tests and its block
  pub data Command : Type 0 where
    command : (name : List ℕ) (line : ℕ) (args : List Argument) (tests : Tests) (block : Block) → Command

  -- the block of a command, or none if the command ends by a semicolon
  pub data Block : Type 0 where
    no_block : Block
    block : CommandList → Block

  -- a list of commands
  pub data CommandList : Type 0 where
    end_commands : CommandList
    more_commands : Command → CommandList → CommandList

-- The commands as a list, and back. `items` serves proofs alone.
abbrev pub items : CommandList → List Command
items end_commands = []
items (more_commands n ns) = n ∷ items ns

abbrev pub command_list : List Command → CommandList
command_list [] = end_commands
command_list (n ∷ ns) = more_commands n (command_list ns)

-- The tests as a list, and back. `test_items` serves proofs alone.
abbrev pub test_items : TestList → List Test
test_items end_tests = []
test_items (more_tests t ts) = t ∷ test_items ts

abbrev pub tests : List Test → TestList
tests [] = end_tests
tests (t ∷ ts) = more_tests t (tests ts)
