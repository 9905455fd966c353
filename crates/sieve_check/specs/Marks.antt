-- The marks of a script, in the order of its text. An abstract script has marks, and so has a
-- text's tree. They show commands, tests and branches, and which tests are negated or joined.
-- Where both have the same marks, each command that stops, returns or acts is in the abstract
-- script once. Each test is there with the tests in it, and each block in its branch. No mark
-- shows that an argument is kept. On both sides a command or a test is marked by its reading,
-- which may leave arguments out.
use Rattle.std.specs.Prelude.{◌≡◌, ℕ, Bool, true, false, List, [], ◌∷◌, ◌++◌, Option, Some, None}
use Rattle.sieve_script.specs.Reading as reading
use Rattle.sieve_script.specs.Reading.{Ask, TestReading, CommandReading, Leaf}
use Rattle.sieve_script.specs.Script.{Commands, no_commands, stops, returns, acts, chooses, Branches, no_branches, else_branch, test_branch, Condition, always, never, asks, negated, all_hold, any_holds, Conditions, no_conditions, one_condition}
use Rattle.sieve_check.specs.Context.{Context, after, after_kind, inside, script_start}
use Rattle.sieve_check.specs.Script.{command_reading, reading_of, script_of, test_reading}
use Rattle.sieve_profile.specs.Profile.{Profile}
use Rattle.sieve_table.specs.Known.{known_command, known_test}
use Rattle.sieve_syntax.specs.Tree.{Test, test, Tests, no_tests, one_test, test_list, TestList, end_tests, more_tests, Command, command, Block, no_block, block, CommandList, end_commands, more_commands, command_list}

-- `stop_mark`, `return_mark` and `act_mark` are commands that stop, return or act; `act_mark` has
-- the line too. `test_mark` begins a branch with a test, and `else_mark` an `else`. `block_end`
-- ends the block of a branch, and `choice_end` the branches of an `if`. In tests, `always_mark` is
-- `true` (RFC 5228, section 5.10), and `never_mark` is `false` (RFC 5228, section 5.6). `ask_mark`
-- is a question. `not_mark` begins a `not`, which negates the test in it (RFC 5228, section 5.8).
-- `all_mark` begins an `allof` (RFC 5228, section 5.2), and `any_mark` an `anyof` (RFC 5228,
-- section 5.3). These join the tests in them. `join_end` ends each of these, a `not` too.
pub data Mark : Type 0 where
  stop_mark : Mark
  return_mark : Mark
  act_mark : (leaf : Leaf) (line : ℕ) → Mark
  test_mark : Mark
  else_mark : Mark
  block_end : Mark
  choice_end : Mark
  always_mark : Mark
  never_mark : Mark
  ask_mark : (ask : Ask) → Mark
  not_mark : Mark
  all_mark : Mark
  any_mark : Mark
  join_end : Mark

-- THE MARKS OF AN ABSTRACT SCRIPT

unfoldable mutual
  -- of a condition
  pub condition_marks : Condition → List Mark
  condition_marks always = always_mark ∷ []
  condition_marks never = never_mark ∷ []
  condition_marks (asks ask) = ask_mark ask ∷ []
  condition_marks (negated inner) = not_mark ∷ (condition_marks inner ++ (join_end ∷ []))
  condition_marks (all_hold inner) = all_mark ∷ (conditions_marks inner ++ (join_end ∷ []))
  condition_marks (any_holds inner) = any_mark ∷ (conditions_marks inner ++ (join_end ∷ []))

  -- of conditions in order
  pub conditions_marks : Conditions → List Mark
  conditions_marks no_conditions = []
  conditions_marks (one_condition c cs) = condition_marks c ++ conditions_marks cs

unfoldable mutual
  -- of commands
  pub marks : Commands → List Mark
  marks no_commands = []
  marks (stops rest) = stop_mark ∷ marks rest
  marks (returns rest) = return_mark ∷ marks rest
  marks (acts leaf line rest) = act_mark leaf line ∷ marks rest
  marks (chooses branches rest) = branch_marks branches ++ (choice_end ∷ marks rest)

  -- of branches: of each its beginning, its condition, its block, and the block's end
  pub branch_marks : Branches → List Mark
  branch_marks no_branches = []
  branch_marks (else_branch inner) = else_mark ∷ (marks inner ++ (block_end ∷ []))
  branch_marks (test_branch condition inner others) = test_mark ∷ (condition_marks condition ++ (marks inner ++ (block_end ∷ branch_marks others)))

-- THE MARKS OF A TREE'S TESTS

-- The mark of a test before the tests in it. It is that of `true` or `false` (RFC 5228,
-- sections 5.10 and 5.6), or of a question. Or it begins an `allof`, `anyof` or `not`
-- (RFC 5228, sections 5.2, 5.3 and 5.8). A test without a reading, which no script without a
-- breach has, has no mark.
abbrev pub test_opening : Option TestReading → List Mark
test_opening None = []
test_opening (Some reading.reads_always) = always_mark ∷ []
test_opening (Some reading.reads_never) = never_mark ∷ []
test_opening (Some (reading.reads_ask ask)) = ask_mark ask ∷ []
test_opening (Some reading.reads_all) = all_mark ∷ []
test_opening (Some reading.reads_any) = any_mark ∷ []
test_opening (Some reading.reads_not) = not_mark ∷ []

-- the mark of a test after the tests in it
abbrev pub test_closing : Option TestReading → List Mark
test_closing (Some reading.reads_all) = join_end ∷ []
test_closing (Some reading.reads_any) = join_end ∷ []
test_closing (Some reading.reads_not) = join_end ∷ []
test_closing other = []

unfoldable mutual
  -- of a test: its own marks, and between them those of the tests in it
  pub test_marks : Context → Test → List Mark
  test_marks context (test name line args ts) =
      test_opening (test_reading context (known_test context.profile name) args) ++ (tests_marks context ts ++ test_closing (test_reading context (known_test context.profile name) args))

  pub tests_marks : Context → Tests → List Mark
  tests_marks context no_tests = []
  tests_marks context (one_test t) = test_marks context t
  tests_marks context (test_list ts) = test_list_marks context ts

  pub test_list_marks : Context → TestList → List Mark
  test_list_marks context end_tests = []
  test_list_marks context (more_tests t ts) = test_marks context t ++ test_list_marks context ts

-- THE MARKS OF A TREE'S COMMANDS

-- whether a command is an `elsif` or `else`, which goes on with the branches before it
-- (RFC 5228, section 3.1)
abbrev pub continues : Option CommandReading → Bool
continues (Some reading.reads_elsif) = true
continues (Some reading.reads_else) = true
continues other = false

-- The mark of a command before its tests and its block. A command without a reading, which no
-- script without a breach has, has no mark. Nor has a command that does nothing.
abbrev pub opening : Option CommandReading → ℕ → List Mark
opening None line = []
opening (Some reading.reads_if) line = test_mark ∷ []
opening (Some reading.reads_elsif) line = test_mark ∷ []
opening (Some reading.reads_else) line = else_mark ∷ []
opening (Some reading.reads_stop) line = stop_mark ∷ []
opening (Some reading.reads_return) line = return_mark ∷ []
opening (Some reading.reads_nothing) line = []
opening (Some (reading.reads_act leaf)) line = act_mark leaf line ∷ []

-- After the block of a branch comes its end. Where the next command isn't an `elsif` or `else`, the
-- end of the `if`'s branches follows.
abbrev pub branch_closing : (continued : Bool) → List Mark
branch_closing true = block_end ∷ []
branch_closing false = block_end ∷ choice_end ∷ []

abbrev pub closing : Option CommandReading → (continued : Bool) → List Mark
closing (Some reading.reads_if) continued = branch_closing continued
closing (Some reading.reads_elsif) continued = branch_closing continued
closing (Some reading.reads_else) continued = branch_closing continued
closing other continued = []

-- whether the first of some commands is an `elsif` or `else`
abbrev pub begins_continued : Context → CommandList → Bool
begins_continued context end_commands = false
begins_continued context (more_commands n ns) = continues (reading_of context n)

unfoldable mutual
  -- Of a command: its own mark, those of its tests and its block, and those that end there. An `if`
  -- goes on with each `elsif` and the `else` right after it.
  pub command_marks : Context → Command → (continued : Bool) → List Mark
  command_marks context (command name line args ts ending) continued =
      opening (command_reading context (known_command context.profile name) args) line
      ++ (tests_marks context ts ++ (block_marks (after_kind context (known_command context.profile name) args) ending ++ closing (command_reading context (known_command context.profile name) args) continued))

  pub block_marks : Context → Block → List Mark
  block_marks context no_block = []
  block_marks context (block ns) = command_list_marks (inside context) ns

  pub command_list_marks : Context → CommandList → List Mark
  command_list_marks context end_commands = []
  command_list_marks context (more_commands n ns) = command_marks context n (begins_continued (after context n) ns) ++ command_list_marks (after context n) ns

-- the abstract script of a tree has the same marks as the tree, in the order of its text
abbrev pub DoesAll : Profile → List Command → Type 0
DoesAll profile tree = marks (script_of profile tree) ≡ command_list_marks (script_start profile) (command_list tree)
