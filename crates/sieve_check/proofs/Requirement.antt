-- After the `require` commands at the top of a script, exactly the capabilities that
-- they name are required.
use Rattle.std.proofs.Common.{◌≡◌, suc, ◌+◌, Bool, true, false, cond, ◌&&◌, List, [], ◌∷◌, ◌++◌, take, ℕ, Option, None, Some, refl, sym, ap, ◌∙◌, subst, arith, append_assoc, drop}
use Rattle.std.proofs.lemmas.List.Elements.{All-append, All-cons, All-nil}
use Rattle.std.specs.List.{All, prefix_len, take_while}
use Rattle.std.specs.Prelude.{if◌then◌else◌}
use Rattle.sieve_syntax.specs.Tree.{Text, Argument, strings, number, tag, Test, test, Tests, no_tests, one_test, test_list, TestList, end_tests, more_tests, Block, no_block, block, Command, command, CommandList, end_commands, more_commands, command_list}
use Rattle.sieve_check.specs.Context.{Context, after, after_block, after_kind, inside, requiring_arguments, script_start}
use Rattle.sieve_check.specs.Element.{Element, among, argument_elements, block_elements, command_arguments, judged_labels, labelled_elements, command_elements, command_list_elements, row_elements, test_arguments, test_elements, test_list_elements, tests_elements, text_elements, the_command, the_number, the_test, the_text}
use Rattle.sieve_check.specs.Requirement.{IsJudgedUnder, JudgesAfterRequires, is_require_command, leading_requires, requires_kind, requiring_command, requiring_commands}
use Rattle.sieve_check.specs.Use.{has_block, is_well_used}
use Rattle.sieve_script.specs.Role.{first_role}
use Rattle.sieve_script.specs.Shape.{known_labels, known_shapes}
use Rattle.sieve_table.specs.Table.{Row, command_row, test_row}
use Rattle.sieve_script.specs.declared.label.Label.{Label}
use Rattle.sieve_check.proofs.Truth.{not_both}
use Rattle.sieve_table.specs.Required.{Required}
use Rattle.sieve_profile.specs.Profile.{Profile}
use Rattle.sieve_table.specs.Known.{known_command, known_test}
use Rattle.sieve_check.proofs.Profiles.{command_profile}
use Rattle.sieve_table.specs.declared.row.Role.{Role}
use Rattle.sieve_table.specs.declared.table.CommandKind.{CommandKind}
use Rattle.sieve_table.specs.declared.table.TestKind.{TestKind}

-- ARGUMENTS AND TESTS

module _ (r : Required) where
  abbrev Judged : Element → Type 0
  Judged = IsJudgedUnder r

  texts_judged : (context : Context) (role : Option Role) (ts : List Text) → context.required ≡ r → All Judged (text_elements context role ts)
  texts_judged context role [] same = All-nil Judged
  texts_judged context role (t ∷ ts) same = All-cons Judged (the_text context role t) (text_elements context role ts) same (texts_judged context role ts same)

  argument_judged : (context : Context) (role : Option Role) (a : Argument) → context.required ≡ r → All Judged (argument_elements context role a)
  argument_judged context role (strings items bracketed) same = texts_judged context role items same
  argument_judged context role (number value line) same = All-cons Judged (the_number value line) [] tt (All-nil Judged)
  argument_judged context role (tag name line) same = All-nil Judged

  arguments_judged : (context : Context) (labels : List Label) (args : List Argument) → context.required ≡ r → All Judged (labelled_elements context labels args)
  arguments_judged context labels [] same = All-nil Judged
  arguments_judged context labels (a ∷ args) same =
      All-append Judged (argument_elements context (first_role labels) a) (labelled_elements context (drop 1 labels) args)
      (argument_judged context (first_role labels) a same) (arguments_judged context (drop 1 labels) args same)

  row_judged : (context : Context) (row : Row) (args : List Argument) (ts : Tests) (ends : Bool) → context.required ≡ r → All Judged (row_elements context row args ts ends)
  row_judged context row args ts ends same =
      let labels = known_labels context.profile row args in
      arguments_judged (among context labels) (judged_labels (is_well_used row (known_shapes context.profile row.tags args) ts ends) labels) args same

  test_arguments_judged : (context : Context) (k : Option TestKind) (args : List Argument) (ts : Tests) → context.required ≡ r → All Judged (test_arguments context k args ts)
  test_arguments_judged context None args ts same = arguments_judged context [] args same
  test_arguments_judged context (Some kind) args ts same = row_judged context (test_row kind) args ts false same

  command_arguments_judged : (context : Context) (k : Option CommandKind) (args : List Argument) (ts : Tests) (ending : Block) → context.required ≡ r → All Judged (command_arguments context k args ts ending)
  command_arguments_judged context None args ts ending same = arguments_judged context [] args same
  command_arguments_judged context (Some kind) args ts ending same = row_judged context (command_row kind) args ts (has_block ending) same

  mutual
    unfolding test_elements tests_elements test_list_elements

    test_judged : (t : Test) (context : Context) → context.required ≡ r → All Judged (test_elements context t)
    test_judged (test name line args ts) context same =
        All-cons Judged (the_test context name line args ts) (test_arguments context (known_test context.profile name) args ts ++ tests_elements context ts) same
        (All-append Judged (test_arguments context (known_test context.profile name) args ts) (tests_elements context ts)
        (test_arguments_judged context (known_test context.profile name) args ts same) (tests_judged ts context same))

    tests_judged : (ts : Tests) (context : Context) → context.required ≡ r → All Judged (tests_elements context ts)
    tests_judged no_tests context same = All-nil Judged
    tests_judged (one_test t) context same = test_judged t context same
    tests_judged (test_list ts) context same = test_list_judged ts context same

    test_list_judged : (ts : TestList) (context : Context) → context.required ≡ r → All Judged (test_list_elements context ts)
    test_list_judged end_tests context same = All-nil Judged
    test_list_judged (more_tests t ts) context same =
        All-append Judged (test_elements context t) (test_list_elements context ts) (test_judged t context same) (test_list_judged ts context same)

  -- COMMANDS AFTER THE REQUIRES

  -- after a command that is no `require` at the top, no more is required
  kind_requires_none : (context : Context) (k : Option CommandKind) (args : List Argument) → (context.leads && requires_kind k) ≡ false → context.required ≡ r → ((after_kind context k args).leads ≡ false) × ((after_kind context k args).required ≡ r)
  kind_requires_none context None args other same = (refl, same)
  kind_requires_none context (Some kind) args other same = (other, ap (λ b. if b then requiring_arguments context.required args else context.required) other ∙ same)

  block_requires_none : (ending : Block) (context : Context) → (context.leads ≡ false) × (context.required ≡ r) → ((after_block context ending).leads ≡ false) × ((after_block context ending).required ≡ r)
  unfolding after_block
  block_requires_none no_block context so = so
  block_requires_none (block ns) context so = so

  command_requires_none : (n : Command) (context : Context) → (context.leads && is_require_command context.profile n) ≡ false → context.required ≡ r → ((after context n).leads ≡ false) × ((after context n).required ≡ r)
  unfolding after
  command_requires_none (command name line args ts ending) context other same = block_requires_none ending (after_kind context (known_command context.profile name) args) (kind_requires_none context (known_command context.profile name) args other same)

  mutual
    unfolding command_elements block_elements command_list_elements

    command_judged : (n : Command) (context : Context) → (context.leads && is_require_command context.profile n) ≡ false → context.required ≡ r → All Judged (command_elements context n)
    command_judged (command name line args ts ending) context other same =
        let within = tests_elements context ts ++ block_elements (after_kind context (known_command context.profile name) args) ending in
        All-cons Judged (the_command context name line args ts ending) (command_arguments context (known_command context.profile name) args ts ending ++ within) same
        (All-append Judged (command_arguments context (known_command context.profile name) args ts ending) within
        (command_arguments_judged context (known_command context.profile name) args ts ending same)
        (All-append Judged (tests_elements context ts) (block_elements (after_kind context (known_command context.profile name) args) ending)
        (tests_judged ts context same)
        (block_judged ending (after_kind context (known_command context.profile name) args) (kind_requires_none context (known_command context.profile name) args other same).1)))

    block_judged : (ending : Block) (context : Context) → context.required ≡ r → All Judged (block_elements context ending)
    block_judged no_block context same = All-nil Judged
    block_judged (block ns) context same = commands_judged ns (inside context) refl same

    commands_judged : (ns : CommandList) (context : Context) → context.leads ≡ false → context.required ≡ r → All Judged (command_list_elements context ns)
    commands_judged end_commands context after_them same = All-nil Judged
    commands_judged (more_commands n ns) context after_them same =
        let other = ap (λ b. b && is_require_command context.profile n) after_them in
        let next = command_requires_none n context other same in
        All-append Judged (command_elements context n) (command_list_elements (after context n) ns) (command_judged n context other same) (commands_judged ns (after context n) next.0 next.1)

-- THE REQUIRES

both_true : (a b : Bool) → a ≡ true → b ≡ true → (a && b) ≡ true
both_true a b x y = ap (λ c. c && b) x ∙ y

never : (b : Bool) → (b && false) ≡ false
never true = refl
never false = refl

-- after a `require` at the top, the capabilities that its strings name are required too
kind_requires : (context : Context) (k : Option CommandKind) (args : List Argument) → context.leads ≡ true → requires_kind k ≡ true → ((after_kind context k args).leads ≡ true) × ((after_kind context k args).required ≡ requiring_arguments context.required args)
kind_requires context None args leads is = absurd (not_both is)
kind_requires context (Some kind) args leads is =
    let both = both_true context.leads (requires_kind (Some kind)) leads is in
    (both, ap (λ b. if b then requiring_arguments context.required args else context.required) both)

block_requires : (r : Required) (ending : Block) (context : Context) → (context.leads ≡ true) × (context.required ≡ r) → ((after_block context ending).leads ≡ true) × ((after_block context ending).required ≡ r)
unfolding after_block
block_requires r no_block context so = so
block_requires r (block ns) context so = so

-- the required capabilities after a `require`
command_requires : (n : Command) (context : Context) → context.leads ≡ true → is_require_command context.profile n ≡ true → ((after context n).leads ≡ true) × ((after context n).required ≡ requiring_command context.required n)
unfolding after
command_requires (command name line args ts ending) context leads is = block_requires (requiring_arguments context.required args) ending (after_kind context (known_command context.profile name) args) (kind_requires context (known_command context.profile name) args leads is)

take_one : {X : Type 0} (x : X) (xs : List X) (n : ℕ) → take (1 + n) (x ∷ xs) ≡ x ∷ take n xs
take_one x xs n = let one : 1 + n ≡ suc n = omega arith in ap (λ k. take k (x ∷ xs)) one

-- the items that pass at the front of a list, with one more in front
front_passes : {X : Type 0} (p : X → Bool) (x : X) (xs : List X) → p x ≡ true → take_while p (x ∷ xs) ≡ x ∷ take_while p xs
front_passes p x xs is = ap (λ b. take (cond b (1 + prefix_len p xs) 0) (x ∷ xs)) is ∙ take_one x xs (prefix_len p xs)

front_fails : {X : Type 0} (p : X → Bool) (x : X) (xs : List X) → p x ≡ false → take_while p (x ∷ xs) ≡ []
front_fails p x xs not = ap (λ b. take (cond b (1 + prefix_len p xs) 0) (x ∷ xs)) not

-- The elements from a place at the top of a script on. First are those of the `require` commands
-- there. For the others, the capabilities that these name are required.
abbrev Splits : Profile → Context → List Command → Type 0
Splits p context tree = (rest : List Element) × (command_list_elements context (command_list tree) ≡ command_list_elements context (command_list (leading_requires p tree)) ++ rest) × All (IsJudgedUnder (requiring_commands context.required (leading_requires p tree))) rest

splits : (p : Profile) (tree : List Command) (context : Context) → context.profile ≡ p → context.leads ≡ true → Splits p context tree
unfolding command_list_elements
splits p [] context same leads = ([], refl, All-nil (IsJudgedUnder context.required))
splits p (n ∷ tree) context same leads = by_command (is_require_command p n) refl (splits p tree (after context n) (command_profile n context ∙ same))
  where
    by_command : (b : Bool) → is_require_command p n ≡ b → ((after context n).leads ≡ true → Splits p (after context n) tree) → Splits p context (n ∷ tree)
    by_command true is below =
        let next = command_requires n context leads (ap (λ q. is_require_command q n) same ∙ is) in
        let more = below next.0 in (
          more.0,
          ap (λ l. command_elements context n ++ l) more.1
              ∙ sym (append_assoc (command_elements context n) (command_list_elements (after context n) (command_list (leading_requires p tree))) more.0)
              ∙ sym (ap (λ l. command_list_elements context (command_list l) ++ more.0) (front_passes (is_require_command p) n tree is)),
          subst (λ r. All (IsJudgedUnder r) more.0) (ap (λ r. requiring_commands r (leading_requires p tree)) next.1 ∙ sym (ap (requiring_commands context.required) (front_passes (is_require_command p) n tree is))) more.2,
        )
    by_command false not below =
        let other = ap (λ q. context.leads && is_require_command q n) same ∙ ap (λ b. context.leads && b) not ∙ never context.leads in
        let next = command_requires_none context.required n context other refl in (
          command_list_elements context (command_list (n ∷ tree)),
          sym (ap (λ l. command_list_elements context (command_list l) ++ command_list_elements context (command_list (n ∷ tree))) (front_fails (is_require_command p) n tree not)),
          subst (λ r. All (IsJudgedUnder r) (command_list_elements context (command_list (n ∷ tree)))) (sym (ap (requiring_commands context.required) (front_fails (is_require_command p) n tree not)))
              (All-append (IsJudgedUnder context.required) (command_elements context n) (command_list_elements (after context n) (command_list tree)) (command_judged context.required n context other refl) (commands_judged context.required (command_list tree) (after context n) next.0 next.1)),
        )

pub judged_after : (profile : Profile) (tree : List Command) → JudgesAfterRequires profile tree
judged_after profile tree =
    let so = splits profile tree (script_start profile) refl refl in
    record { rest = so.0; split = so.1; same = so.2 }
