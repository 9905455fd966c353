-- The walk over tests and commands: their breaches, their readings, and the context after them.
use Rattle.std.proofs.Common.{◌≡◌, List, [], ◌∷◌, ◌++◌, map, None, Option, Some, refl, sym, ap, ◌∙◌, subst}
use Rattle.std.specs.declared.boxed.Box.{Box}
use Rattle.std.specs.declared.vec.Vec.{Vec}
use Rattle.std.specs.declared.alloc.Global.{Global}
use Rattle.sieve_syntax.specs.Tree.{Block, no_block, block, CommandList, end_commands, command_list, tests}
use Rattle.sieve_syntax.specs.view.Tree.{argument_of, block_of, command_as, test_of, tests_of}
use Rattle.sieve_syntax.specs.declared.tree.Command as commands
use Rattle.sieve_syntax.specs.declared.tree.Test as one_tests
use Rattle.sieve_syntax.specs.declared.tree.Tests.TheVariants as test_variants
use Rattle.sieve_check.specs.Breach.{breaches_in}
use Rattle.sieve_check.specs.CheckFault.{IsFirst}
use Rattle.sieve_check.specs.Scope.{Scope}
use Rattle.sieve_check.specs.Context.{Context, after, after_block, after_kind, past_commands, inside}
use Rattle.sieve_check.specs.Element.{Element, block_elements, command_elements, command_list_elements, test_elements, test_list_elements, tests_elements}
use Rattle.sieve_check.specs.view.Context.{at_spot}
use Rattle.sieve_check.specs.Script.{block_commands, chain_of, chain_with, command_kind_reading, command_reading, condition_of, conditions, conditions_in, test_kind_reading, test_reading}
use Rattle.sieve_check.specs.view.Head.{command_head, test_head}
use Rattle.sieve_script.specs.Reading.{CommandReading, TestReading}
use Rattle.sieve_script.specs.Script.{Chain, Commands, Condition, Conditions, chain_with_command, first_condition, joined, no_branches, no_commands, no_conditions, one_condition}
use Rattle.sieve_table.specs.Known.{known_command, known_test}
use Rattle.sieve_table.specs.declared.table.CommandKind.{CommandKind}
use Rattle.sieve_table.specs.declared.table.TestKind.{TestKind}
use Rattle.sieve_check.specs.declared.context.Spot.{Spot}
use Rattle.sieve_check.specs.declared.validator.CheckFault.{CheckFault}
use Rattle.sieve_check.proofs.Searches.{front_stops, front_passes, none_in}
use Rattle.sieve_syntax.proofs.Views.{seen_command, seen_list, seen_none, seen_one, seen_test}

-- TESTS

module _ (t : one_tests.Test) (context : Context) where
  test_at : test_elements context (test_of t) ≡ test_head context t ++ tests_elements context (tests_of (one_tests.out-Test t).tests)
  unfolding test_elements
  test_at = ap (test_elements context) (seen_test t)

  -- the breaches of a test are those of its head, and then of its tests
  pub test_stops : (fault : CheckFault) → IsFirst (breaches_in (test_head context t)) fault → IsFirst (breaches_in (test_elements context (test_of t))) fault
  test_stops fault h = subst (λ es. IsFirst (breaches_in es) fault) (sym test_at) (front_stops _ _ fault h)

  test_left : breaches_in (test_head context t) ≡ [] → breaches_in (test_elements context (test_of t)) ≡ breaches_in (tests_elements context (tests_of (one_tests.out-Test t).tests))
  test_left none = ap breaches_in test_at ∙ front_passes _ _ none

  pub inner_stop : (fault : CheckFault) → breaches_in (test_head context t) ≡ [] → IsFirst (breaches_in (tests_elements context (tests_of (one_tests.out-Test t).tests))) fault → IsFirst (breaches_in (test_elements context (test_of t))) fault
  inner_stop fault none h = subst (λ bs. IsFirst bs fault) (sym (test_left none)) h

  pub test_ends : breaches_in (test_head context t) ≡ [] → breaches_in (tests_elements context (tests_of (one_tests.out-Test t).tests)) ≡ [] → breaches_in (test_elements context (test_of t)) ≡ []
  test_ends none fine = test_left none ∙ fine

-- the reading of a test by its parts
pub test_reads : (t : one_tests.Test) (context : Context) (kind : TestKind) (reading : TestReading) (inner : Conditions) → let o = one_tests.out-Test t in
    known_test context.profile o.name ≡ Some kind → reading ≡ test_kind_reading context kind (map argument_of o.args.items) → inner ≡ conditions_in context (tests_of o.tests) → joined (Some reading) inner ≡ condition_of context (test_of t)
unfolding condition_of
test_reads t context kind reading inner known read holds =
    let o = one_tests.out-Test t in
    let args = map argument_of o.args.items in
    ap (λ r. joined (Some r) inner) read
    ∙ ap (λ k. joined (test_reading context k args) inner) (sym known)
    ∙ ap (joined (test_reading context (known_test context.profile o.name) args)) holds
    ∙ sym (ap (condition_of context) (seen_test t))

-- the tests after arguments, by whether they are none, one or a list
pub none_read : (ts : test_variants.the_data) (context : Context) → ts ≡ test_variants.None → no_conditions ≡ conditions_in context (tests_of ts)
unfolding conditions_in
none_read ts context is = sym (ap (conditions_in context) (seen_none ts is))

pub one_read : (ts : test_variants.the_data) (b : Box one_tests.Test Global) (t : one_tests.Test) (context : Context) → ts ≡ test_variants.One b → t ≡ b.value → one_condition (condition_of context (test_of t)) no_conditions ≡ conditions_in context (tests_of ts)
unfolding conditions_in
one_read ts b t context is same = sym (ap (conditions_in context) (seen_one ts b t is same))

pub list_read : (ts : test_variants.the_data) (b : Box (Vec one_tests.Test Global) Global) (v : Vec one_tests.Test Global) (context : Context) → ts ≡ test_variants.List b → v ≡ b.value → conditions context (tests (map test_of v.items)) ≡ conditions_in context (tests_of ts)
unfolding conditions_in
list_read ts b v context is same = sym (ap (conditions_in context) (seen_list ts b v.items is (ap (λ x. x.items) same)))

pub one_found : (ts : test_variants.the_data) (b : Box one_tests.Test Global) (t : one_tests.Test) (context : Context) → ts ≡ test_variants.One b → t ≡ b.value → test_elements context (test_of t) ≡ tests_elements context (tests_of ts)
unfolding tests_elements
one_found ts b t context is same = sym (ap (tests_elements context) (seen_one ts b t is same))

pub list_found : (ts : test_variants.the_data) (b : Box (Vec one_tests.Test Global) Global) (v : Vec one_tests.Test Global) (context : Context) → ts ≡ test_variants.List b → v ≡ b.value → test_list_elements context (tests (map test_of v.items)) ≡ tests_elements context (tests_of ts)
unfolding tests_elements
list_found ts b v context is same = sym (ap (tests_elements context) (seen_list ts b v.items is (ap (λ x. x.items) same)))

-- the breaches of a list of tests are those of the first, and then of the others
module _ (context : Context) (all rest : List one_tests.Test) (t : one_tests.Test) (same : all ≡ t ∷ rest) where
  list_at : test_list_elements context (tests (map test_of all)) ≡ test_elements context (test_of t) ++ test_list_elements context (tests (map test_of rest))
  unfolding test_list_elements
  list_at = ap (λ l. test_list_elements context (tests (map test_of l))) same

  pub list_stops : (fault : CheckFault) → IsFirst (breaches_in (test_elements context (test_of t))) fault → IsFirst (breaches_in (test_list_elements context (tests (map test_of all)))) fault
  list_stops fault first = subst (λ es. IsFirst (breaches_in es) fault) (sym list_at) (front_stops _ _ fault first)

  pub list_goes_on : breaches_in (test_elements context (test_of t)) ≡ [] → breaches_in (test_list_elements context (tests (map test_of rest))) ≡ breaches_in (test_list_elements context (tests (map test_of all)))
  list_goes_on none = sym (ap breaches_in list_at ∙ front_passes _ _ none)

  pub list_more : conditions context (tests (map test_of all)) ≡ one_condition (condition_of context (test_of t)) (conditions context (tests (map test_of rest)))
  unfolding conditions
  list_more = ap (λ l. conditions context (tests (map test_of l))) same

pub list_none : (context : Context) → conditions context (tests []) ≡ no_conditions
unfolding conditions
list_none context = refl

pub list_ends : (context : Context) → breaches_in (test_list_elements context (tests [])) ≡ []
unfolding test_list_elements
list_ends context = none_in

-- A BLOCK

-- the commands of a block, none where there is no block
abbrev pub inner_commands : Block → CommandList
inner_commands no_block = end_commands
inner_commands (block ns) = ns

pub some_inside : (b : Option (Vec commands.Command Global)) (v cs : Vec commands.Command Global) → b ≡ Some v → cs ≡ v → command_list (map command_as cs.items) ≡ inner_commands (block_of b)
some_inside b v cs is same = ap (λ l. command_list (map command_as l.items)) same ∙ sym (ap (λ x. inner_commands (block_of x)) is)

pub none_inside : (b : Option (Vec commands.Command Global)) (v cs : Vec commands.Command Global) → b ≡ None → v.items ≡ [] → cs ≡ v → command_list (map command_as cs.items) ≡ inner_commands (block_of b)
none_inside b v cs is empty same = ap (λ l. command_list (map command_as l.items)) same ∙ ap (λ l. command_list (map command_as l)) empty ∙ sym (ap (λ x. inner_commands (block_of x)) is)

in_block : (b : Block) (context : Context) → block_elements context b ≡ command_list_elements (inside context) (inner_commands b)
unfolding block_elements command_list_elements
in_block no_block context = refl
in_block (block ns) context = refl

-- the context after commands in a block
abbrev beyond_commands : Context → CommandList → Context
beyond_commands context ns = record context { scope = (past_commands (inside context) ns).scope }

past_block : (b : Block) (context : Context) → after_block context b ≡ beyond_commands context (inner_commands b)
unfolding after_block past_commands
past_block no_block context = refl
past_block (block ns) context = refl

block_does : (b : Block) (context : Context) → block_commands context b ≡ (chain_of (inside context) (inner_commands b)).rest
unfolding block_commands chain_of
block_does no_block context = refl
block_does (block ns) context = refl

-- A COMMAND

module _ (c : commands.Command) (context : Context) where
  -- the context before its block
  abbrev before_block : Context
  before_block = let o = commands.out-Command c in after_kind context (known_command context.profile o.name) (map argument_of o.args.items)

  abbrev of_tests : List Element
  of_tests = tests_elements context (tests_of (commands.out-Command c).tests)

  command_at : command_elements context (command_as c) ≡ command_head context c ++ (of_tests ++ block_elements before_block (block_of (commands.out-Command c).block))
  unfolding command_elements
  command_at = ap (command_elements context) (seen_command c)

  -- the breaches of a command are those of its head, then of its tests, and then of its block
  pub head_stops : (fault : CheckFault) → IsFirst (breaches_in (command_head context c)) fault → IsFirst (breaches_in (command_elements context (command_as c))) fault
  head_stops fault h = subst (λ es. IsFirst (breaches_in es) fault) (sym command_at) (front_stops _ _ fault h)

  tests_left : breaches_in (command_head context c) ≡ [] → breaches_in (command_elements context (command_as c)) ≡ breaches_in (of_tests ++ block_elements before_block (block_of (commands.out-Command c).block))
  tests_left none = ap breaches_in command_at ∙ front_passes _ _ none

  pub tests_stop : (fault : CheckFault) → breaches_in (command_head context c) ≡ [] → IsFirst (breaches_in of_tests) fault → IsFirst (breaches_in (command_elements context (command_as c))) fault
  tests_stop fault none h = subst (λ bs. IsFirst bs fault) (sym (tests_left none)) (front_stops _ _ fault h)

  block_left : breaches_in (command_head context c) ≡ [] → breaches_in of_tests ≡ [] → breaches_in (command_elements context (command_as c)) ≡ breaches_in (block_elements before_block (block_of (commands.out-Command c).block))
  block_left none fine = tests_left none ∙ front_passes _ _ fine

  after_at : after context (command_as c) ≡ after_block before_block (block_of (commands.out-Command c).block)
  unfolding after
  after_at = ap (after context) (seen_command c)

  -- the reading of a command by its parts
  read_at : (chain : Chain) → let o = commands.out-Command c in
      chain_with_command (command_reading context (known_command context.profile o.name) (map argument_of o.args.items)) o.line (first_condition (conditions_in context (tests_of o.tests))) (block_commands before_block (block_of o.block)) chain ≡ chain_with context (command_as c) chain
  unfolding chain_with
  read_at chain = sym (ap (λ n. chain_with context n chain) (seen_command c))

  -- its block; `within` and these names are the context at its start
  module _ (next within : Spot) (names : Scope) (inner : List commands.Command) (goes : at_spot next names ≡ before_block) (start : (scope : Scope) → at_spot within scope ≡ inside (at_spot next scope)) (is : command_list (map command_as inner) ≡ inner_commands (block_of (commands.out-Command c).block)) where
    within_block : at_spot within names ≡ inside before_block
    within_block = start names ∙ ap inside goes

    abbrev of_inner : List Element
    of_inner = command_list_elements (at_spot within names) (command_list (map command_as inner))

    block_found : breaches_in (command_head context c) ≡ [] → breaches_in of_tests ≡ [] → breaches_in (command_elements context (command_as c)) ≡ breaches_in of_inner
    block_found none fine =
        block_left none fine
        ∙ ap breaches_in (in_block (block_of (commands.out-Command c).block) before_block)
        ∙ sym (ap (λ w. breaches_in (command_list_elements w (command_list (map command_as inner)))) within_block ∙ ap (λ ns. breaches_in (command_list_elements (inside before_block) ns)) is)

    pub block_stops : (fault : CheckFault) → breaches_in (command_head context c) ≡ [] → breaches_in of_tests ≡ [] → IsFirst (breaches_in of_inner) fault → IsFirst (breaches_in (command_elements context (command_as c))) fault
    block_stops fault none fine h = subst (λ bs. IsFirst bs fault) (sym (block_found none fine)) h

    pub block_ends : breaches_in (command_head context c) ≡ [] → breaches_in of_tests ≡ [] → breaches_in of_inner ≡ [] → breaches_in (command_elements context (command_as c)) ≡ []
    block_ends none fine h = block_found none fine ∙ h

    pub block_moves : (scope : Scope) → scope ≡ (past_commands (at_spot within names) (command_list (map command_as inner))).scope → at_spot next scope ≡ after context (command_as c)
    block_moves scope ends =
        ap (at_spot next) (ends ∙ ap (λ w. (past_commands w (command_list (map command_as inner))).scope) (start names))
        ∙ ap (λ w. beyond_commands w (command_list (map command_as inner))) goes
        ∙ ap (beyond_commands before_block) is
        ∙ sym (after_at ∙ past_block (block_of (commands.out-Command c).block) before_block)

    -- and the reading of the command, by the readings of its parts
    pub block_reads : (kind : CommandKind) (reading : CommandReading) (condition : Condition) (does : Commands) → let o = commands.out-Command c in
        known_command context.profile o.name ≡ Some kind → reading ≡ command_kind_reading context kind (map argument_of o.args.items) → condition ≡ first_condition (conditions_in context (tests_of o.tests)) → does ≡ (chain_of (at_spot within names) (command_list (map command_as inner))).rest
        → (chain : Chain) → chain_with_command (Some reading) o.line condition does chain ≡ chain_with context (command_as c) chain
    block_reads kind reading condition does known read holds same chain =
        let o = commands.out-Command c in
        let args = map argument_of o.args.items in
        let done : does ≡ block_commands before_block (block_of o.block) =
        same ∙ ap (λ w. (chain_of w (command_list (map command_as inner))).rest) within_block ∙ ap (λ ns. (chain_of (inside before_block) ns).rest) is ∙ sym (block_does (block_of o.block) before_block) in
        ap (λ r. chain_with_command (Some r) o.line condition does chain) read
        ∙ ap (λ k. chain_with_command (command_reading context k args) o.line condition does chain) (sym known)
        ∙ ap (λ x. chain_with_command (command_reading context (known_command context.profile o.name) args) o.line x does chain) holds
        ∙ ap (λ x. chain_with_command (command_reading context (known_command context.profile o.name) args) o.line (first_condition (conditions_in context (tests_of o.tests))) x chain) done
        ∙ read_at chain

-- COMMANDS

-- the breaches of commands are those of the first, and then of the others
module _ (context : Context) (all rest : List commands.Command) (c : commands.Command) (same : all ≡ c ∷ rest) where
  commands_at : command_list_elements context (command_list (map command_as all)) ≡ command_elements context (command_as c) ++ command_list_elements (after context (command_as c)) (command_list (map command_as rest))
  unfolding command_list_elements
  commands_at = ap (λ l. command_list_elements context (command_list (map command_as l))) same

  pub commands_stop : (fault : CheckFault) → IsFirst (breaches_in (command_elements context (command_as c))) fault → IsFirst (breaches_in (command_list_elements context (command_list (map command_as all)))) fault
  commands_stop fault first = subst (λ es. IsFirst (breaches_in es) fault) (sym commands_at) (front_stops _ _ fault first)

  pub commands_go_on : (next : Context) → next ≡ after context (command_as c) → breaches_in (command_elements context (command_as c)) ≡ [] → breaches_in (command_list_elements next (command_list (map command_as rest))) ≡ breaches_in (command_list_elements context (command_list (map command_as all)))
  commands_go_on next goes none =
      ap (λ p. breaches_in (command_list_elements p (command_list (map command_as rest)))) goes
      ∙ sym (ap breaches_in commands_at ∙ front_passes _ _ none)

  pub commands_move : (next : Context) → next ≡ after context (command_as c) → past_commands next (command_list (map command_as rest)) ≡ past_commands context (command_list (map command_as all))
  unfolding past_commands
  commands_move next goes =
      ap (λ p. past_commands p (command_list (map command_as rest))) goes
      ∙ sym (ap (λ l. past_commands context (command_list (map command_as l))) same)

  pub commands_more : (next : Context) → next ≡ after context (command_as c) → chain_of context (command_list (map command_as all)) ≡ chain_with context (command_as c) (chain_of next (command_list (map command_as rest)))
  unfolding chain_of
  commands_more next goes =
      ap (λ l. chain_of context (command_list (map command_as l))) same
      ∙ sym (ap (λ p. chain_with context (command_as c) (chain_of p (command_list (map command_as rest)))) goes)

pub commands_end : (context : Context) → breaches_in (command_list_elements context (command_list [])) ≡ []
unfolding command_list_elements
commands_end context = none_in

pub commands_moved : (context : Context) → past_commands context (command_list []) ≡ context
unfolding past_commands
commands_moved context = refl

pub commands_read : (context : Context) → chain_of context (command_list []) ≡ record { otherwise = no_branches; rest = no_commands }
unfolding chain_of
commands_read context = refl

pub ruleset test_steps = (test_stops, inner_stop, test_ends)

pub ruleset command_steps = (head_stops, tests_stop)
