-- A command and a test without a breach have a reading, and the tests and the block that it needs.
-- They stand where they may.
use Rattle.std.proofs.Common.{◌≡◌, Bool, true, false, not, ◌&&◌, ◌||◌, List, [], ◌++◌, Option, None, Some, refl, sym, ap, ◌∙◌, subst}
use Rattle.std.proofs.lemmas.Bool.{and_parts, or_parts}
use denote.Enum.Bare.{sameb, same_true}
use Rattle.sieve_syntax.specs.Tree.{Argument, Tests, Command, command, Block, no_block, block}
use Rattle.sieve_check.specs.Breach.{breaches_in, command_breaks, test_breaks}
use Rattle.sieve_check.specs.Context.{Context, allows_else, after, after_block, after_kind, continues_if}
use Rattle.sieve_check.specs.Element.{block_elements, command_arguments, command_elements, tests_elements, the_command}
use Rattle.sieve_check.specs.Cut.{cut_row}
use Rattle.sieve_check.specs.Script.{command_kind_reading, command_reading, reading_of, test_reading}
use Rattle.sieve_check.specs.Use.{block_fits, has_bad_arguments, has_bad_tag, has_block, lacks_kind, lacks_own, tests_fit, tests_there}
use Rattle.sieve_script.specs.CommandReading as commands
use Rattle.sieve_script.specs.Label.{labels_of, row_is_filled}
use Rattle.sieve_script.specs.Reading as reading
use Rattle.sieve_script.specs.Reading.{TestReading, reads_always, reads_never, reads_ask, reads_all, reads_any, reads_not, CommandReading}
use Rattle.sieve_script.specs.Shape.{known_labels, known_shapes}
use Rattle.sieve_script.specs.TestReading as tests
use Rattle.sieve_script.specs.CutArgument.{CutArgument}
use Rattle.sieve_script.specs.declared.label.Label.{Label}
use Rattle.sieve_script.specs.declared.label.Shape.{Shape}
use Rattle.sieve_profile.proofs.Each.{of_each}
use Rattle.sieve_table.specs.Known.{known_command}
use Rattle.sieve_table.specs.Table.{Row, command_row, test_row}
use Rattle.sieve_table.specs.contracts.row.Inner as inners
use Rattle.sieve_table.specs.contracts.table.CommandKind as every_command
use Rattle.sieve_table.specs.contracts.table.TestKind as every_test
use Rattle.sieve_table.specs.declared.row.Inner.{Inner}
use Rattle.sieve_table.specs.declared.row.Inner.TheVariants as inner
use Rattle.sieve_table.specs.declared.rule.Rule.{Rule}
use Rattle.sieve_table.specs.declared.rule.Rule.TheVariants.{BadArguments, BadTag, ElsePlace, UnknownCommand}
use Rattle.sieve_table.specs.declared.table.CommandKind.{CommandKind}
use Rattle.sieve_table.specs.declared.table.TestKind.{TestKind}
use Rattle.sieve_check.proofs.Truth.{agree, alike, never_both, not_false}
use Rattle.sieve_check.proofs.Unbroken.{keeps, nothing_before}

-- NEEDS OF A READING

-- which tests a test of such a reading has in it (RFC 5228, sections 5.2, 5.3 and 5.8)
abbrev pub tests_of_reading : TestReading → Inner
tests_of_reading reads_always = inner.None
tests_of_reading reads_never = inner.None
tests_of_reading (reads_ask ask) = inner.None
tests_of_reading reads_all = inner.List
tests_of_reading reads_any = inner.List
tests_of_reading reads_not = inner.One

-- a test of such a reading has the tests in it that it needs, and no others
abbrev pub Joins : Option TestReading → Tests → Type 0
Joins None ts = ⊥
Joins (Some r) ts = tests_fit (tests_of_reading r) ts ≡ true

-- The needs of a command of such a reading (RFC 5228, section 3.1). They are its tests, whether it
-- has a block, and whether it goes on with an `if`.
pub record Needs : Type 0 where
  pub tests : Inner
  pub block : Bool
  pub after_if : Bool

abbrev no_needs : Needs
no_needs = record { tests = inner.None; block = false; after_if = false }

abbrev pub needs_of : CommandReading → Needs
needs_of reading.reads_if = record { tests = inner.One; block = true; after_if = false }
needs_of reading.reads_elsif = record { tests = inner.One; block = true; after_if = true }
needs_of reading.reads_else = record { tests = inner.None; block = true; after_if = true }
needs_of reading.reads_stop = no_needs
needs_of reading.reads_return = no_needs
needs_of reading.reads_nothing = no_needs
needs_of (reading.reads_act leaf) = no_needs

-- A command of such a reading stands where it may. It has the tests and the block that it
-- needs, and no others.
abbrev pub Stands : (follows_if : Bool) → Option CommandReading → Tests → Block → Type 0
Stands follows_if None ts ending = ⊥
Stands follows_if (Some r) ts ending = (tests_fit (needs_of r).tests ts ≡ true) × (block_fits (needs_of r).block (has_block ending) ≡ true) × ((needs_of r).after_if ≡ true → follows_if ≡ true)

-- whether a branch may go on after it
abbrev pub may_go_on : Option CommandReading → Bool
may_go_on (Some reading.reads_if) = true
may_go_on (Some reading.reads_elsif) = true
may_go_on other = false

-- whether all is as the row says, by the shapes of its arguments, the tests and the block
abbrev used_by : Row → List Shape → Inner → Bool → Bool
used_by row shapes there ends =
    not (has_bad_tag (labels_of row shapes))
    && not ((not (row_is_filled row shapes) || (not (sameb inners.the_type row.tests there) || not (block_fits row.has_block ends))) || (lacks_own (labels_of row shapes) || lacks_kind row.one_of (labels_of row shapes)))

well_used : (bad_tag bad_arguments : Bool) → bad_tag ≡ false → bad_arguments ≡ false → (not bad_tag && not bad_arguments) ≡ true
well_used bad_tag bad_arguments tags arguments = ap (λ b. not b && not bad_arguments) tags ∙ ap not arguments

-- the tests and the block are those of the row
ends_well : (row : Row) (shapes : List Shape) (there : Inner) (ends : Bool) → used_by row shapes there ends ≡ true → (sameb inners.the_type row.tests there ≡ true) × (block_fits row.has_block ends ≡ true)
ends_well row shapes there ends used =
    let labels = labels_of row shapes in
    let fit = sameb inners.the_type row.tests there in
    let bad = (not (row_is_filled row shapes) || (not fit || not (block_fits row.has_block ends))) || (lacks_own labels || lacks_kind row.one_of labels) in
    let well = or_parts (not (row_is_filled row shapes) || (not fit || not (block_fits row.has_block ends))) (lacks_own labels || lacks_kind row.one_of labels) (not_true bad (and_parts (not (has_bad_tag labels)) (not bad) used).1) in
    let filled = or_parts (not (row_is_filled row shapes)) (not fit || not (block_fits row.has_block ends)) well.0 in
    let both = or_parts (not fit) (not (block_fits row.has_block ends)) filled.1 in
    (not_false fit both.0, not_false (block_fits row.has_block ends) both.1)
  where
    not_true : (b : Bool) → not b ≡ true → b ≡ false
    not_true true e = sym e
    not_true false e = refl

-- NEEDS OF READINGS, AND ROWS

one_inner : (a b : Inner) → sameb inners.the_type a b ≡ true → a ≡ b
one_inner a b e = same_true inners.the_type tt a b e

tests_read_of : (k : TestKind) (labels : List Label) (args : List CutArgument) → tests_of_reading (tests.test_reading_by k labels args) ≡ (test_row k).tests
tests_read_of k labels args =
    one_inner (tests_of_reading (tests.test_reading_by k labels args)) (test_row k).tests
    (of_each every_test.enum tt (λ k. sameb inners.the_type (tests_of_reading (tests.test_reading_by k labels args)) (test_row k).tests) refl k)

-- whether a kind agrees with a reading: the tests, the block, an `if` before it, and
-- a branch after it
abbrev says_so : CommandKind → CommandReading → Bool
says_so k r =
    sameb inners.the_type (needs_of r).tests (command_row k).tests
    && (agree (needs_of r).block (command_row k).has_block && (agree (needs_of r).after_if (continues_if k) && agree (allows_else k) (may_go_on (Some r))))

record SaysSo (k : CommandKind) (r : CommandReading) : Type 0 where
  tests : (needs_of r).tests ≡ (command_row k).tests
  block : (needs_of r).block ≡ (command_row k).has_block
  after_if : (needs_of r).after_if ≡ continues_if k
  goes_on : allows_else k ≡ may_go_on (Some r)

command_says_so : (k : CommandKind) (labels : List Label) (args : List CutArgument) → SaysSo k (commands.command_reading_by k labels args)
command_says_so k labels args =
    let r = commands.command_reading_by k labels args in
    let all : says_so k r ≡ true = of_each every_command.enum tt (λ k. says_so k (commands.command_reading_by k labels args)) refl k in
    let first = and_parts (sameb inners.the_type (needs_of r).tests (command_row k).tests) (agree (needs_of r).block (command_row k).has_block && (agree (needs_of r).after_if (continues_if k) && agree (allows_else k) (may_go_on (Some r)))) all in
    let second = and_parts (agree (needs_of r).block (command_row k).has_block) (agree (needs_of r).after_if (continues_if k) && agree (allows_else k) (may_go_on (Some r))) first.1 in
    let third = and_parts (agree (needs_of r).after_if (continues_if k)) (agree (allows_else k) (may_go_on (Some r))) second.1 in
    record {
      tests = one_inner (needs_of r).tests (command_row k).tests first.0;
      block = alike (needs_of r).block (command_row k).has_block second.0;
      after_if = alike (needs_of r).after_if (continues_if k) third.0;
      goes_on = alike (allows_else k) (may_go_on (Some r)) third.1;
    }

-- A TEST AND A COMMAND

module _ (context : Context) where
  -- a test of some kind or none that breaks no rule is of a kind, and is read
  pub test_is_read : (k : Option TestKind) (args : List Argument) (ts : Tests) → ((rule : Rule) → test_breaks context k args ts rule ≡ false) → Joins (test_reading context k args) ts
  test_is_read None args ts unbroken = absurd (never_both (unbroken UnknownCommand))
  test_is_read (Some kind) args ts unbroken =
      let row = test_row kind in
      let shapes = known_shapes context.profile row.tags args in
      let used = well_used (has_bad_tag (labels_of row shapes)) (has_bad_arguments row shapes ts false) (unbroken BadTag) (unbroken BadArguments) in
      let ends = ends_well row shapes (tests_there ts) false used in
      subst (λ i. tests_fit i ts ≡ true) (sym (tests_read_of kind (known_labels context.profile row args) (cut_row context row args))) ends.0

  -- a command of some kind or none that breaks no rule is of a kind, and stands where it may
  pub command_is_read : (k : Option CommandKind) (args : List Argument) (ts : Tests) (ending : Block) → ((rule : Rule) → command_breaks context k args ts ending rule ≡ false)
      → Stands context.follows_if (command_reading context k args) ts ending
  command_is_read None args ts ending unbroken = absurd (never_both (unbroken UnknownCommand))
  command_is_read (Some kind) args ts ending unbroken =
      let row = command_row kind in
      let shapes = known_shapes context.profile row.tags args in
      let used = well_used (has_bad_tag (labels_of row shapes)) (has_bad_arguments row shapes ts (has_block ending)) (unbroken BadTag) (unbroken BadArguments) in
      let ends = ends_well row shapes (tests_there ts) (has_block ending) used in
      let says = command_says_so kind (known_labels context.profile row args) (cut_row context row args) in
      let fit : tests_fit (needs_of (command_kind_reading context kind args)).tests ts ≡ true = subst (λ i. tests_fit i ts ≡ true) (sym says.tests) ends.0 in
      let fits : block_fits (needs_of (command_kind_reading context kind args)).block (has_block ending) ≡ true = subst (λ b. block_fits b (has_block ending) ≡ true) (sym says.block) ends.1 in
      (fit, fits, λ needs. follows (continues_if kind) context.follows_if (sym says.after_if ∙ needs) (unbroken ElsePlace))
    where
      follows : (continues follows_if : Bool) → continues ≡ true → (continues && not follows_if) ≡ false → follows_if ≡ true
      follows continues true is fine = refl
      follows continues false is fine = absurd (never_both (sym (ap (λ b. b && true) is) ∙ fine))

  -- a branch may go on after a command exactly where its reading says so
  kind_goes_on : (k : Option CommandKind) (args : List Argument) (ts : Tests) (ending : Block) → command_breaks context k args ts ending UnknownCommand ≡ false → (after_kind context k args).follows_if ≡ may_go_on (command_reading context k args)
  kind_goes_on None args ts ending unbroken = absurd (never_both unbroken)
  kind_goes_on (Some kind) args ts ending unbroken = (command_says_so kind (known_labels context.profile (command_row kind) args) (cut_row context (command_row kind) args)).goes_on

  block_keeps : (before : Context) (ending : Block) → (after_block before ending).follows_if ≡ before.follows_if
  unfolding after_block
  block_keeps before no_block = refl
  block_keeps before (block ns) = refl

  pub goes_on : (n : Command) → breaches_in (command_elements context n) ≡ [] → (after context n).follows_if ≡ may_go_on (reading_of context n)
  unfolding after command_elements
  goes_on (command name line args ts ending) none =
      let k = known_command context.profile name in
      let parts = nothing_before (the_command context name line args ts ending) (command_arguments context k args ts ending ++ (tests_elements context ts ++ block_elements (after_kind context k args) ending)) none in
      block_keeps (after_kind context k args) ending ∙ kind_goes_on k args ts ending (keeps (the_command context name line args ts ending) parts.0 UnknownCommand)
