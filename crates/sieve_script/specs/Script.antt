-- The abstract script: the commands and tests of a checked text as they are read. The branches of
-- each `if` are grouped. A run of a script goes by this.
use Rattle.std.specs.Prelude.{ℕ, Option, Some, None}
use Rattle.sieve_script.specs.Reading as reading
use Rattle.sieve_script.specs.Reading.{Ask, Leaf, TestReading, reads_always, reads_never, reads_ask, reads_all, reads_any, reads_not, CommandReading}

mutual
  -- a condition: the questions of tests, joined
  pub data Condition : Type 0 where
    always : Condition
    never : Condition
    asks : (ask : Ask) → Condition
    negated : (inner : Condition) → Condition
    all_hold : (inner : Conditions) → Condition
    any_holds : (inner : Conditions) → Condition

  -- conditions in order
  pub data Conditions : Type 0 where
    no_conditions : Conditions
    one_condition : (first : Condition) (others : Conditions) → Conditions

mutual
  -- Commands in order: none, or one before the rest. That one ends the run, ends its script, acts
  -- (with its line), or is an `if` with its branches.
  pub data Commands : Type 0 where
    no_commands : Commands
    stops : (rest : Commands) → Commands
    returns : (rest : Commands) → Commands
    acts : (leaf : Leaf) (line : ℕ) (rest : Commands) → Commands
    chooses : (branches : Branches) (rest : Commands) → Commands

  -- The branches of an `if` in order, of which at most one is taken. There are none, an `else`, or
  -- one with a test before others. An `else` with an empty block is a branch too.
  pub data Branches : Type 0 where
    no_branches : Branches
    else_branch : (block : Commands) → Branches
    test_branch : (condition : Condition) (block : Commands) (others : Branches) → Branches

-- TESTS

-- the first of some conditions; without one, a condition that never holds
abbrev pub first_condition : Conditions → Condition
first_condition no_conditions = never
first_condition (one_condition c cs) = c

-- The condition of a test, by its reading and the conditions of the tests in it. A test without a
-- reading, which no faultless script has, never holds.
abbrev pub joined : Option TestReading → Conditions → Condition
joined None inner = never
joined (Some reads_always) inner = always
joined (Some reads_never) inner = never
joined (Some (reads_ask ask)) inner = asks ask
joined (Some reads_all) inner = all_hold inner
joined (Some reads_any) inner = any_holds inner
joined (Some reads_not) inner = negated (first_condition inner)

-- COMMANDS

-- Commands from some place on. `otherwise` are the branches `elsif` and `else` that stand there,
-- which go on with the `if` before them. `rest` are the commands after these branches.
pub record Chain : Type 0 where
  pub otherwise : Branches
  pub rest : Commands

-- A command before others, by its reading, the condition of its one test, and its block. A command
-- without a reading, which no faultless script has, does nothing.
abbrev pub chain_with_command : Option CommandReading → ℕ → Condition → Commands → Chain → Chain
chain_with_command None line condition inner chain = record { otherwise = no_branches; rest = chain.rest }
chain_with_command (Some reading.reads_if) line condition inner chain = record { otherwise = no_branches; rest = chooses (test_branch condition inner chain.otherwise) chain.rest }
chain_with_command (Some reading.reads_elsif) line condition inner chain = record { otherwise = test_branch condition inner chain.otherwise; rest = chain.rest }
chain_with_command (Some reading.reads_else) line condition inner chain = record { otherwise = else_branch inner; rest = chain.rest }
chain_with_command (Some reading.reads_stop) line condition inner chain = record { otherwise = no_branches; rest = stops chain.rest }
chain_with_command (Some reading.reads_return) line condition inner chain = record { otherwise = no_branches; rest = returns chain.rest }
chain_with_command (Some reading.reads_nothing) line condition inner chain = record { otherwise = no_branches; rest = chain.rest }
chain_with_command (Some (reading.reads_act leaf)) line condition inner chain = record { otherwise = no_branches; rest = acts leaf line chain.rest }
