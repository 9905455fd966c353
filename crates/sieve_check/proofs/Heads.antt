-- The breaches of commands and tests apart from the tests and the block in them.
use Rattle.std.proofs.Common.{◌≡◌, ℕ, Bool, true, false, not, ◌&&◌, List, [], ◌++◌, map, Option, None, Some, is_some, Result, refl, sym, ap, ◌∙◌, subst}
use Rattle.std.proofs.lemmas.List.{append_assoc}
use Rattle.std.specs.declared.vec.Vec.{Vec}
use Rattle.std.specs.declared.alloc.Global.{Global}
use Rattle.sieve_syntax.specs.view.Tree.{argument_of, block_of, tests_of}
use Rattle.sieve_syntax.specs.declared.tree.Argument as arguments
use Rattle.sieve_syntax.specs.declared.tree.Command as commands
use Rattle.sieve_syntax.specs.declared.tree.Test as one_tests
use Rattle.sieve_check.specs.Breach.{Breach, breach_if, breaches_at, breaches_by, breaches_in, command_breaks, kind_breaks, test_breaks, use_lacks}
use Rattle.sieve_table.specs.Rule.{all_rules}
use Rattle.sieve_check.specs.CheckFault.{IsFirst}
use Rattle.sieve_check.specs.Context.{Context, is_require, continues_if}
use Rattle.sieve_check.specs.Element.{the_command, the_test, test_arguments, command_arguments}
use Rattle.sieve_table.specs.Known.{known_command, known_test}
use Rattle.sieve_table.specs.Table.{Row, command_row, test_row}
use Rattle.sieve_check.specs.Use.{has_block}
use Rattle.sieve_script.specs.Shape.{known_shapes}
use Rattle.sieve_check.specs.view.Finds.{Finds}
use Rattle.sieve_check.specs.view.Head.{test_head, command_head, kind_found}
use Rattle.sieve_check.specs.view.Use.{row_found}
use Rattle.sieve_table.specs.declared.rule.Rule.TheVariants.{RequirePlace, UnknownCommand}
use Rattle.sieve_table.specs.declared.table.CommandKind.{CommandKind}
use Rattle.sieve_table.specs.declared.table.TestKind.{TestKind}
use Rattle.sieve_check.specs.declared.validator.CheckFault.{CheckFault}
use Rattle.sieve_check.specs.declared.validator.CheckFault.TheVariants as faults
use Rattle.sieve_check.proofs.Searches.{first_stops, cons_in}

-- TESTS

-- a test of a name that no test has breaks the rule of unknown commands first
pub test_unknown : (t : one_tests.Test) (context : Context) (line : ℕ) → None ≡ known_test context.profile (one_tests.out-Test t).name → line ≡ (one_tests.out-Test t).line → IsFirst (breaches_in (test_head context t)) (faults.Breach line UnknownCommand)
unfolding breaches_at
test_unknown t context line is l =
    let o = one_tests.out-Test t in
    let args = map argument_of o.args.items in
    let ts = tests_of o.tests in
    let here : IsFirst (breaches_at (the_test context o.name o.line args ts)) (faults.Breach o.line UnknownCommand) = subst (λ k. IsFirst (breaches_by (test_breaks context k args ts) o.line all_rules) (faults.Breach o.line UnknownCommand)) is refl in
    first_stops (the_test context o.name o.line args ts) (test_arguments context (known_test context.profile o.name) args ts) (faults.Breach line UnknownCommand)
    (subst (λ x. IsFirst (breaches_at (the_test context o.name o.line args ts)) (faults.Breach x UnknownCommand)) (sym l) here)

-- the breaches found in a test of a kind are those of the test and its arguments
known_by : (t : one_tests.Test) (context : Context) (kind : TestKind) (row : Row) (line : ℕ) (xs : List arguments.Argument) → let o = one_tests.out-Test t in
    Some kind ≡ known_test context.profile o.name → line ≡ o.line → row ≡ test_row kind → xs ≡ o.args.items → row_found false context line row (map argument_of xs) (tests_of o.tests) false ≡ breaches_in (test_head context t)
unfolding breaches_at
known_by t context kind row line xs is l same a =
    let o = one_tests.out-Test t in
    let args = map argument_of o.args.items in
    let ts = tests_of o.tests in
    ap (λ x. row_found false context x row (map argument_of xs) ts false) l
    ∙ ap (λ x. row_found false context o.line x (map argument_of xs) ts false) same
    ∙ ap (λ x. row_found false context o.line (test_row kind) (map argument_of x) ts false) a
    ∙ ap (λ k. breaches_by (test_breaks context k args ts) o.line all_rules ++ breaches_in (test_arguments context k args ts)) is
    ∙ sym (cons_in (the_test context o.name o.line args ts) (test_arguments context (known_test context.profile o.name) args ts))

module _ (t : one_tests.Test) (context : Context) (kind : TestKind) (row : Row) (line : ℕ) (xs : List arguments.Argument) (is : Some kind ≡ known_test context.profile (one_tests.out-Test t).name) (l : line ≡ (one_tests.out-Test t).line) (same : row ≡ test_row kind) (a : xs ≡ (one_tests.out-Test t).args.items) where
  pub test_stops : (fault : CheckFault) → IsFirst (row_found false context line row (map argument_of xs) (tests_of (one_tests.out-Test t).tests) false) fault → IsFirst (breaches_in (test_head context t)) fault
  test_stops fault h = subst (λ bs. IsFirst bs fault) (known_by t context kind row line xs is l same a) h

  pub test_passes : row_found false context line row (map argument_of xs) (tests_of (one_tests.out-Test t).tests) false ≡ [] → breaches_in (test_head context t) ≡ []
  test_passes none = sym (known_by t context kind row line xs is l same a) ∙ none

-- COMMANDS

-- whether a block ends a command
block_there : (inner : Option (Vec commands.Command Global)) → is_some inner ≡ has_block (block_of inner)
block_there None = refl
block_there (Some v) = refl

module _ (context : Context) (kind : CommandKind) (c : commands.Command) where
  -- the breaches found in a command of a kind, by whether it is a `require` in a wrong place
  by_places : Bool → List Breach
  by_places misplaced =
      let o = commands.out-Command c in
      breach_if misplaced o.line RequirePlace ++ row_found (continues_if kind && not context.follows_if) context o.line (command_row kind) (map argument_of o.args.items) (tests_of o.tests) (has_block (block_of o.block))

  found_by : kind_found context kind c ≡ by_places (is_require kind && not context.leads)
  unfolding by_places
  found_by = let o = commands.out-Command c in
      append_assoc (breach_if (is_require kind && not context.leads) o.line RequirePlace)
      (breaches_by (kind_breaks false (continues_if kind && not context.follows_if) (use_lacks context.profile context.required (command_row kind) (map argument_of o.args.items)) (command_row kind) (known_shapes context.profile (command_row kind).tags (map argument_of o.args.items)) (tests_of o.tests) (has_block (block_of o.block))) o.line all_rules)
      (breaches_in (command_arguments context (Some kind) (map argument_of o.args.items) (tests_of o.tests) (block_of o.block)))

  pub require_misplaced : (line : ℕ) → line ≡ (commands.out-Command c).line → true ≡ (is_require kind && not context.leads) → IsFirst (kind_found context kind c) (faults.Breach line RequirePlace)
  unfolding by_places
  require_misplaced line l is =
      let o = commands.out-Command c in
      subst (λ x. IsFirst (kind_found context kind c) (faults.Breach x RequirePlace)) (sym l)
      (subst (λ bs. IsFirst bs (faults.Breach o.line RequirePlace)) (sym (found_by ∙ ap by_places (sym is))) refl)

  pub kind_placed : {A : Type 0} (row : Row) (line : ℕ) (xs : List arguments.Argument) (b apart : Bool) (r : Result A CheckFault) → let o = commands.out-Command c in
      line ≡ o.line → row ≡ command_row kind → xs ≡ o.args.items → b ≡ is_some o.block → false ≡ (is_require kind && not context.leads) → apart ≡ (continues_if kind && not context.follows_if) → Finds (row_found apart context line row (map argument_of xs) (tests_of o.tests) b) r → Finds (kind_found context kind c) r
  unfolding by_places
  kind_placed row line xs b apart r l same a ends placed goes found =
      let o = commands.out-Command c in
      let ts = tests_of o.tests in
      subst (λ bs. Finds bs r)
      (ap (λ x. row_found apart context x row (map argument_of xs) ts b) l
      ∙ ap (λ x. row_found apart context o.line x (map argument_of xs) ts b) same
      ∙ ap (λ x. row_found apart context o.line (command_row kind) (map argument_of x) ts b) a
      ∙ ap (row_found apart context o.line (command_row kind) (map argument_of o.args.items) ts) (ends ∙ block_there o.block)
      ∙ ap (λ x. row_found x context o.line (command_row kind) (map argument_of o.args.items) ts (has_block (block_of o.block))) goes
      ∙ sym (found_by ∙ ap by_places (sym placed)))
      found

-- a command of a name that no command has breaks the rule of unknown commands first
pub command_unknown : (c : commands.Command) (context : Context) (line : ℕ) → None ≡ known_command context.profile (commands.out-Command c).name → line ≡ (commands.out-Command c).line → IsFirst (breaches_in (command_head context c)) (faults.Breach line UnknownCommand)
unfolding breaches_at
command_unknown c context line is l =
    let o = commands.out-Command c in
    let args = map argument_of o.args.items in
    let ts = tests_of o.tests in
    let ending = block_of o.block in
    let here : IsFirst (breaches_at (the_command context o.name o.line args ts ending)) (faults.Breach o.line UnknownCommand) = subst (λ k. IsFirst (breaches_by (command_breaks context k args ts ending) o.line all_rules) (faults.Breach o.line UnknownCommand)) is refl in
    first_stops (the_command context o.name o.line args ts ending) (command_arguments context (known_command context.profile o.name) args ts ending) (faults.Breach line UnknownCommand)
    (subst (λ x. IsFirst (breaches_at (the_command context o.name o.line args ts ending)) (faults.Breach x UnknownCommand)) (sym l) here)

head_by : (c : commands.Command) (context : Context) (kind : CommandKind) → Some kind ≡ known_command context.profile (commands.out-Command c).name → kind_found context kind c ≡ breaches_in (command_head context c)
unfolding breaches_at
head_by c context kind is =
    let o = commands.out-Command c in
    let args = map argument_of o.args.items in
    let ts = tests_of o.tests in
    let ending = block_of o.block in
    ap (λ k. breaches_by (command_breaks context k args ts ending) o.line all_rules ++ breaches_in (command_arguments context k args ts ending)) is
    ∙ sym (cons_in (the_command context o.name o.line args ts ending) (command_arguments context (known_command context.profile o.name) args ts ending))

-- the breaches found in a command of a kind are those of the command and its arguments
pub command_stops : (c : commands.Command) (context : Context) (kind : CommandKind) (fault : CheckFault) → Some kind ≡ known_command context.profile (commands.out-Command c).name → IsFirst (kind_found context kind c) fault → IsFirst (breaches_in (command_head context c)) fault
command_stops c context kind fault is h = subst (λ bs. IsFirst bs fault) (head_by c context kind is) h

pub command_passes : (c : commands.Command) (context : Context) (kind : CommandKind) → Some kind ≡ known_command context.profile (commands.out-Command c).name → kind_found context kind c ≡ [] → breaches_in (command_head context c) ≡ []
command_passes c context kind is none = sym (head_by c context kind is) ∙ none

pub ruleset kind_steps = (require_misplaced, kind_placed)
