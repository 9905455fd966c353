-- The abstract script of a tree without a breach has the same marks as the tree.
use Rattle.std.proofs.Common.{◌≡◌, ℕ, Bool, true, false, List, [], ◌∷◌, ◌++◌, Option, Some, None, refl, sym, ap, ◌∙◌, subst}
use Rattle.std.proofs.lemmas.List.{append-nil, append_assoc}
use Rattle.sieve_check.specs.Breach.{breaches_in, breaches_of}
use Rattle.sieve_check.specs.Context.{Context, after, after_kind, inside, script_start}
use Rattle.sieve_check.specs.Element.{block_elements, command_arguments, command_elements, command_list_elements, test_arguments, test_elements, test_list_elements, tests_elements, the_command, the_test}
use Rattle.sieve_check.specs.Marks.{Mark, DoesAll, act_mark, all_mark, always_mark, any_mark, ask_mark, begins_continued, block_end, block_marks, branch_closing, branch_marks, choice_end, closing, condition_marks, conditions_marks, continues, else_mark, join_end, marks, never_mark, command_marks, command_list_marks, not_mark, opening, return_mark, stop_mark, test_closing, test_list_marks, test_mark, test_marks, test_opening, tests_marks}
use Rattle.sieve_check.specs.Script.{block_commands, chain_of, chain_with, command_reading, condition_of, conditions, conditions_in, reading_of, test_reading}
use Rattle.sieve_check.specs.Use.{block_fits, has_block, tests_fit}
use Rattle.sieve_profile.specs.Profile.{Profile}
use Rattle.sieve_script.specs.Reading as reading
use Rattle.sieve_script.specs.Reading.{CommandReading, TestReading}
use Rattle.sieve_script.specs.Script.{Chain, Condition, chain_with_command, first_condition, joined}
use Rattle.sieve_syntax.specs.Tree.{Test, test, Tests, no_tests, one_test, test_list, TestList, end_tests, more_tests, Command, command, Block, no_block, block, CommandList, end_commands, more_commands, command_list}
use Rattle.sieve_table.specs.Known.{known_command, known_test}
use Rattle.sieve_table.specs.declared.row.Inner.TheVariants as inner
use Rattle.sieve_check.proofs.Readable.{Joins, Stands, command_is_read, goes_on, may_go_on, test_is_read}
use Rattle.sieve_check.proofs.Truth.{not_both}
use Rattle.sieve_check.proofs.Unbroken.{keeps, none_in_both, nothing_before}

-- TESTS

module _ (context : Context) where
  -- where no tests are needed there are no marks of tests
  no_marks : (ts : Tests) → tests_fit inner.None ts ≡ true → tests_marks context ts ≡ []
  unfolding tests_marks
  no_marks no_tests fits = refl
  no_marks (one_test t) fits = absurd (not_both fits)
  no_marks (test_list ts) fits = absurd (not_both fits)

  -- where one test is needed, the marks of the first condition are those of the tests
  first_marks : (ts : Tests) → tests_fit inner.One ts ≡ true → conditions_marks (conditions_in context ts) ≡ tests_marks context ts → condition_marks (first_condition (conditions_in context ts)) ≡ tests_marks context ts
  unfolding conditions_marks conditions_in
  first_marks no_tests fits same = absurd (not_both fits)
  first_marks (one_test t) fits same = sym (append-nil (condition_marks (condition_of context t))) ∙ same
  first_marks (test_list ts) fits same = absurd (not_both fits)

  -- a test with the tests in it that it needs has the marks of its condition,
  -- where these have theirs
  joined_marks : (r : Option TestReading) (ts : Tests) → Joins r ts → conditions_marks (conditions_in context ts) ≡ tests_marks context ts → condition_marks (joined r (conditions_in context ts)) ≡ test_opening r ++ (tests_marks context ts ++ test_closing r)
  unfolding condition_marks
  joined_marks None ts joins same = absurd joins
  joined_marks (Some reading.reads_always) ts joins same = ap (λ l. always_mark ∷ (l ++ [])) (sym (no_marks ts joins))
  joined_marks (Some reading.reads_never) ts joins same = ap (λ l. never_mark ∷ (l ++ [])) (sym (no_marks ts joins))
  joined_marks (Some (reading.reads_ask ask)) ts joins same = ap (λ l. ask_mark ask ∷ (l ++ [])) (sym (no_marks ts joins))
  joined_marks (Some reading.reads_all) ts joins same = ap (λ l. all_mark ∷ (l ++ (join_end ∷ []))) same
  joined_marks (Some reading.reads_any) ts joins same = ap (λ l. any_mark ∷ (l ++ (join_end ∷ []))) same
  joined_marks (Some reading.reads_not) ts joins same = ap (λ l. not_mark ∷ (l ++ (join_end ∷ []))) (first_marks ts joins same)

mutual
  unfolding condition_of conditions_in conditions test_marks tests_marks test_list_marks condition_marks conditions_marks test_elements tests_elements test_list_elements

  test_agrees : (t : Test) (context : Context) → breaches_in (test_elements context t) ≡ [] → condition_marks (condition_of context t) ≡ test_marks context t
  test_agrees (test name line args ts) context none =
      let k = known_test context.profile name in
      let parts = nothing_before (the_test context name line args ts) (test_arguments context k args ts ++ tests_elements context ts) none in
      let rest = none_in_both (test_arguments context k args ts) (tests_elements context ts) parts.1 in
      joined_marks context (test_reading context k args) ts (test_is_read context k args ts (keeps (the_test context name line args ts) parts.0)) (tests_agree ts context rest.1)

  tests_agree : (ts : Tests) (context : Context) → breaches_in (tests_elements context ts) ≡ [] → conditions_marks (conditions_in context ts) ≡ tests_marks context ts
  tests_agree no_tests context none = refl
  tests_agree (one_test t) context none = append-nil (condition_marks (condition_of context t)) ∙ test_agrees t context none
  tests_agree (test_list ts) context none = list_agrees ts context none

  list_agrees : (ts : TestList) (context : Context) → breaches_in (test_list_elements context ts) ≡ [] → conditions_marks (conditions context ts) ≡ test_list_marks context ts
  list_agrees end_tests context none = refl
  list_agrees (more_tests t ts) context none =
      let parts = none_in_both (test_elements context t) (test_list_elements context ts) none in
      ap (λ l. l ++ conditions_marks (conditions context ts)) (test_agrees t context parts.0) ∙ ap (λ l. test_marks context t ++ l) (list_agrees ts context parts.1)

-- COMMANDS

-- the marks after the block of a branch: where no branch goes on there, the branches end
abbrev ends_there : (continued : Bool) → List Mark → List Mark
ends_there true all = all
ends_there false all = choice_end ∷ all

-- The chain of commands from some place on has these marks. Where no `elsif` or `else` stands
-- there, the commands alone have them. One stands there only after an `if` or `elsif`.
record Agrees (follows_if continued : Bool) (chain : Chain) (all : List Mark) : Type 0 where
  same : branch_marks chain.otherwise ++ (choice_end ∷ marks chain.rest) ≡ ends_there continued all
  alone : continued ≡ false → marks chain.rest ≡ all
  may : follows_if ≡ false → continued ≡ false

both_ways : (b : Bool) → b ≡ true → b ≡ false → ⊥
both_ways b is not = cc

-- a command without a block has no marks of a block
block_empty : (within : Context) (ending : Block) → block_fits false (has_block ending) ≡ true → block_marks within ending ≡ []
unfolding block_marks
block_empty within no_block fits = refl
block_empty within (block ns) fits = absurd (not_both fits)

-- the marks that close a branch, before those after it
closed : (continued : Bool) (inner all : List Mark) → inner ++ (block_end ∷ ends_there continued all) ≡ (inner ++ branch_closing continued) ++ all
closed true inner all = sym (append_assoc inner (block_end ∷ []) all)
closed false inner all = sym (append_assoc inner (block_end ∷ choice_end ∷ []) all)

-- A COMMAND IN FRONT

module _ (line : ℕ) (condition : Condition) (tested : List Mark) (within : Context) (ending : Block) (continued : Bool) (chain : Chain) (all : List Mark) where
  abbrev before : CommandReading → Chain
  before r = chain_with_command (Some r) line condition (block_commands within ending) chain

  abbrev with_own : CommandReading → List Mark
  with_own r = (opening (Some r) line ++ (tested ++ (block_marks within ending ++ closing (Some r) continued))) ++ all

  -- the block of a branch before the branches that go on with it
  block_first : marks (block_commands within ending) ≡ block_marks within ending → branch_marks chain.otherwise ++ (choice_end ∷ marks chain.rest) ≡ ends_there continued all
      → (marks (block_commands within ending) ++ (block_end ∷ branch_marks chain.otherwise)) ++ (choice_end ∷ marks chain.rest) ≡ (block_marks within ending ++ branch_closing continued) ++ all
  block_first inner same =
      append_assoc (marks (block_commands within ending)) (block_end ∷ branch_marks chain.otherwise) (choice_end ∷ marks chain.rest)
      ∙ ap (λ l. l ++ (block_end ∷ (branch_marks chain.otherwise ++ (choice_end ∷ marks chain.rest)))) inner
      ∙ ap (λ l. block_marks within ending ++ (block_end ∷ l)) same
      ∙ closed continued (block_marks within ending) all

  -- a branch with a test before the branches that go on with it
  test_first : condition_marks condition ≡ tested → marks (block_commands within ending) ≡ block_marks within ending → branch_marks chain.otherwise ++ (choice_end ∷ marks chain.rest) ≡ ends_there continued all
      → (test_mark ∷ (condition_marks condition ++ (marks (block_commands within ending) ++ (block_end ∷ branch_marks chain.otherwise)))) ++ (choice_end ∷ marks chain.rest) ≡ test_mark ∷ ((tested ++ (block_marks within ending ++ branch_closing continued)) ++ all)
  test_first asked inner same =
      ap (λ l. test_mark ∷ l) (append_assoc (condition_marks condition) (marks (block_commands within ending) ++ (block_end ∷ branch_marks chain.otherwise)) (choice_end ∷ marks chain.rest)
      ∙ ap (λ l. condition_marks condition ++ l) (block_first inner same)
      ∙ ap (λ l. l ++ ((block_marks within ending ++ branch_closing continued) ++ all)) asked
      ∙ sym (append_assoc tested (block_marks within ending ++ branch_closing continued) all))

  at_open : (follows_if : Bool) → condition_marks condition ≡ tested → marks (block_commands within ending) ≡ block_marks within ending → Agrees true continued chain all → Agrees follows_if false (before reading.reads_if) (with_own reading.reads_if)
  unfolding marks branch_marks
  at_open follows_if asked inner so = record {
    same = ap (λ l. choice_end ∷ l) (test_first asked inner so.same);
    alone = λ _. test_first asked inner so.same;
    may = λ _. refl;
  }

  at_continuing : (follows_if : Bool) → follows_if ≡ true → condition_marks condition ≡ tested → marks (block_commands within ending) ≡ block_marks within ending → Agrees true continued chain all → Agrees follows_if true (before reading.reads_elsif) (with_own reading.reads_elsif)
  unfolding marks branch_marks
  at_continuing follows_if follows asked inner so = record {
    same = test_first asked inner so.same;
    alone = λ not. absurd (both_ways true refl not);
    may = λ not. absurd (both_ways follows_if follows not);
  }

  at_last : (follows_if : Bool) → follows_if ≡ true → tested ≡ [] → marks (block_commands within ending) ≡ block_marks within ending → Agrees false continued chain all → Agrees follows_if true (before reading.reads_else) (with_own reading.reads_else)
  unfolding marks branch_marks
  at_last follows_if follows none inner so = record {
    same =
        ap (λ l. else_mark ∷ l) (append_assoc (marks (block_commands within ending)) (block_end ∷ []) (choice_end ∷ marks chain.rest)
        ∙ ap (λ l. l ++ (block_end ∷ choice_end ∷ marks chain.rest)) inner
        ∙ ap (λ l. block_marks within ending ++ (block_end ∷ choice_end ∷ l)) (so.alone (so.may refl))
        ∙ ap (λ b. block_marks within ending ++ (block_end ∷ ends_there b all)) (sym (so.may refl))
        ∙ closed continued (block_marks within ending) all
        ∙ ap (λ l. (l ++ (block_marks within ending ++ branch_closing continued)) ++ all) (sym none));
    alone = λ not. absurd (both_ways true refl not);
    may = λ not. absurd (both_ways follows_if follows not);
  }

  -- a command that is no branch, of such marks, before commands where no branch stands
  plainly : (own : List Mark) → tested ≡ [] → block_fits false (has_block ending) ≡ true → Agrees false continued chain all → own ++ marks chain.rest ≡ (own ++ (tested ++ (block_marks within ending ++ []))) ++ all
  plainly own none is so =
      ap (λ l. own ++ l) (so.alone (so.may refl))
      ∙ ap (λ l. l ++ all) (sym (ap (λ l. own ++ (l ++ (block_marks within ending ++ []))) none ∙ ap (λ l. own ++ (l ++ [])) (block_empty within ending is) ∙ append-nil own))

  at_stop : (follows_if : Bool) → tested ≡ [] → block_fits false (has_block ending) ≡ true → Agrees false continued chain all → Agrees follows_if false (before reading.reads_stop) (with_own reading.reads_stop)
  unfolding marks branch_marks
  at_stop follows_if none is so = record {
    same = ap (λ l. choice_end ∷ l) (plainly (stop_mark ∷ []) none is so);
    alone = λ _. plainly (stop_mark ∷ []) none is so;
    may = λ _. refl;
  }

  at_return : (follows_if : Bool) → tested ≡ [] → block_fits false (has_block ending) ≡ true → Agrees false continued chain all → Agrees follows_if false (before reading.reads_return) (with_own reading.reads_return)
  unfolding marks branch_marks
  at_return follows_if none is so = record {
    same = ap (λ l. choice_end ∷ l) (plainly (return_mark ∷ []) none is so);
    alone = λ _. plainly (return_mark ∷ []) none is so;
    may = λ _. refl;
  }

  at_nothing : (follows_if : Bool) → tested ≡ [] → block_fits false (has_block ending) ≡ true → Agrees false continued chain all → Agrees follows_if false (before reading.reads_nothing) (with_own reading.reads_nothing)
  unfolding marks branch_marks
  at_nothing follows_if none is so = record {
    same = ap (λ l. choice_end ∷ l) (plainly [] none is so);
    alone = λ _. plainly [] none is so;
    may = λ _. refl;
  }

  at_act : (leaf : reading.Leaf) (follows_if : Bool) → tested ≡ [] → block_fits false (has_block ending) ≡ true → Agrees false continued chain all → Agrees follows_if false (before (reading.reads_act leaf)) (with_own (reading.reads_act leaf))
  unfolding marks branch_marks
  at_act leaf follows_if none is so = record {
    same = ap (λ l. choice_end ∷ l) (plainly (act_mark leaf line ∷ []) none is so);
    alone = λ _. plainly (act_mark leaf line ∷ []) none is so;
    may = λ _. refl;
  }

  -- a command that stands where it may agrees with its marks, before commands
  -- that agree with theirs
  at_command : (r : Option CommandReading) (follows_if : Bool) (ts : Tests) → (tests_fit inner.One ts ≡ true → condition_marks condition ≡ tested) → (tests_fit inner.None ts ≡ true → tested ≡ []) → Stands follows_if r ts ending → marks (block_commands within ending) ≡ block_marks within ending → Agrees (may_go_on r) continued chain all
      → Agrees follows_if (continues r) (chain_with_command r line condition (block_commands within ending) chain) ((opening r line ++ (tested ++ (block_marks within ending ++ closing r continued))) ++ all)
  at_command None follows_if ts one none stands inner so = absurd stands
  at_command (Some reading.reads_if) follows_if ts one none stands inner so = at_open follows_if (one stands.0) inner so
  at_command (Some reading.reads_elsif) follows_if ts one none stands inner so = at_continuing follows_if (stands.2 refl) (one stands.0) inner so
  at_command (Some reading.reads_else) follows_if ts one none stands inner so = at_last follows_if (stands.2 refl) (none stands.0) inner so
  at_command (Some reading.reads_stop) follows_if ts one none stands inner so = at_stop follows_if (none stands.0) stands.1 so
  at_command (Some reading.reads_return) follows_if ts one none stands inner so = at_return follows_if (none stands.0) stands.1 so
  at_command (Some reading.reads_nothing) follows_if ts one none stands inner so = at_nothing follows_if (none stands.0) stands.1 so
  at_command (Some (reading.reads_act leaf)) follows_if ts one none stands inner so = at_act leaf follows_if (none stands.0) stands.1 so

-- THE TREE

mutual
  unfolding chain_with block_commands chain_of command_marks block_marks command_list_marks command_elements block_elements command_list_elements marks branch_marks

  command_agrees : (n : Command) (context : Context) (continued : Bool) (chain : Chain) (all : List Mark) → breaches_in (command_elements context n) ≡ [] → Agrees (may_go_on (reading_of context n)) continued chain all
      → Agrees context.follows_if (continues (reading_of context n)) (chain_with context n chain) (command_marks context n continued ++ all)
  command_agrees (command name line args ts ending) context continued chain all none so =
      let k = known_command context.profile name in
      let within = after_kind context k args in
      let inside_it = tests_elements context ts ++ block_elements within ending in
      let parts = nothing_before (the_command context name line args ts ending) (command_arguments context k args ts ending ++ inside_it) none in
      let rest = none_in_both (command_arguments context k args ts ending) inside_it parts.1 in
      let inner_none = none_in_both (tests_elements context ts) (block_elements within ending) rest.1 in
      at_command line (first_condition (conditions_in context ts)) (tests_marks context ts) within ending continued chain all (command_reading context k args) context.follows_if ts
      (λ fits. first_marks context ts fits (tests_agree ts context inner_none.0)) (no_marks context ts)
      (command_is_read context k args ts ending (keeps (the_command context name line args ts ending) parts.0)) (block_agrees ending within inner_none.1) so

  block_agrees : (b : Block) (context : Context) → breaches_in (block_elements context b) ≡ [] → marks (block_commands context b) ≡ block_marks context b
  block_agrees no_block context none = refl
  block_agrees (block ns) context none = let so = commands_agree ns (inside context) none in so.alone (so.may refl)

  commands_agree : (ns : CommandList) (context : Context) → breaches_in (command_list_elements context ns) ≡ [] → Agrees context.follows_if (begins_continued context ns) (chain_of context ns) (command_list_marks context ns)
  commands_agree end_commands context none = record { same = refl; alone = λ _. refl; may = λ _. refl }
  commands_agree (more_commands n ns) context none =
      let next = after context n in
      let parts = none_in_both (command_elements context n) (command_list_elements next ns) none in
      command_agrees n context (begins_continued next ns) (chain_of next ns) (command_list_marks next ns) parts.0
      (subst (λ b. Agrees b (begins_continued next ns) (chain_of next ns) (command_list_marks next ns)) (goes_on context n parts.0) (commands_agree ns next parts.1))

pub does_all : (profile : Profile) (tree : List Command) → breaches_of profile tree ≡ [] → DoesAll profile tree
does_all profile tree none = let so = commands_agree (command_list tree) (script_start profile) none in so.alone (so.may refl)

pub ruleset marks_kept = (does_all)
