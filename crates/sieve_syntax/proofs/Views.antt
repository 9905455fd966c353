-- One layer of tests and of commands, as plain data.
use Rattle.std.proofs.Common.{◌≡◌, ℕ, Option, Some, None, List, map, ap, sym, ◌∙◌}
use Rattle.std.specs.declared.alloc.Global.{Global}
use Rattle.std.specs.declared.boxed.Box.{Box}
use Rattle.std.specs.declared.vec.Vec.{Vec}
use Rattle.sieve_syntax.specs.Tree.{Command, Test, Tests, no_tests, command, one_test, test, test_list, tests}
use Rattle.sieve_syntax.specs.view.Tree.{block_of, argument_of, command_step, command_as, test_of, test_step, tests_of, tests_step}
use Rattle.sieve_syntax.specs.declared.tree.Argument as arguments
use Rattle.sieve_syntax.specs.declared.tree.Command as commands
use Rattle.sieve_syntax.specs.declared.tree.Command.TheFolds as command_folds
use Rattle.sieve_syntax.specs.declared.tree.Command.TheViews as command_views
use Rattle.sieve_syntax.specs.declared.tree.Test as one_tests
use Rattle.sieve_syntax.specs.declared.tree.Tests.TheFolds as test_folds
use Rattle.sieve_syntax.specs.declared.tree.Tests.TheOpen as test_layers
use Rattle.sieve_syntax.specs.declared.tree.Tests.TheVariants as test_variants

pub none_seen : tests_of test_variants.None ≡ no_tests
none_seen = ap tests_of (sym test_variants.rolls-None) ∙ test_folds.fold-roll-Tests Tests Test tests_step test_step test_layers.None

pub one_seen : (t : Box one_tests.Test Global) → tests_of (test_variants.One t) ≡ one_test (test_of t.value)
one_seen t = ap tests_of (sym (test_variants.rolls-One t)) ∙ test_folds.fold-roll-Tests Tests Test tests_step test_step (test_layers.One t)

pub list_seen : (ts : Box (Vec one_tests.Test Global) Global) → tests_of (test_variants.List ts) ≡ test_list (tests (map test_of ts.value.items))
list_seen ts = ap tests_of (sym (test_variants.rolls-List ts)) ∙ test_folds.fold-roll-Tests Tests Test tests_step test_step (test_layers.List ts)

pub seen_test : (t : one_tests.Test) → test_of t ≡ test t.name t.line (map argument_of t.args.items) (tests_of t.tests)
seen_test t = test_folds.fold_out-Test Tests Test tests_step test_step t

-- the tests after arguments, by whether they are none, one or a list
pub seen_none : (ts : test_variants.the_data) → ts ≡ test_variants.None → tests_of ts ≡ no_tests
seen_none ts is = ap tests_of is ∙ none_seen

pub seen_one : (ts : test_variants.the_data) (b : Box one_tests.Test Global) (t : one_tests.Test) → ts ≡ test_variants.One b → t ≡ b.value → tests_of ts ≡ one_test (test_of t)
seen_one ts b t is same = ap tests_of is ∙ one_seen b ∙ sym (ap (λ x. one_test (test_of x)) same)

pub seen_list : (ts : test_variants.the_data) (v : Box (Vec one_tests.Test Global) Global) (list : List one_tests.Test) → ts ≡ test_variants.List v → list ≡ v.value.items → tests_of ts ≡ test_list (tests (map test_of list))
seen_list ts v list is same = ap tests_of is ∙ list_seen v ∙ sym (ap (λ l. test_list (tests (map test_of l))) same)

pub seen : (name : List ℕ) (line : ℕ) (args : Vec arguments.Argument Global) (ts : test_variants.the_data) (inner : Option (Vec commands.Command Global)) → command_as (command_views.roll-Command (record { name = name; line = line; args = args; tests = ts; block = inner })) ≡ command name line (map argument_of args.items) (tests_of ts) (block_of inner)
seen name line args ts None = command_folds.fold-roll-Command Command command_step (record { name = name; line = line; args = args; tests = ts; block = None })
seen name line args ts (Some v) = command_folds.fold-roll-Command Command command_step (record { name = name; line = line; args = args; tests = ts; block = Some v })

-- a command, by its parts
pub seen_command : (c : commands.Command) → let o = command_views.out-Command c in command_as c ≡ command o.name o.line (map argument_of o.args.items) (tests_of o.tests) (block_of o.block)
seen_command c =
    let o = command_views.out-Command c in
    ap command_as (sym (command_views.roll-out-Command c)) ∙ seen o.name o.line o.args o.tests o.block
