-- Where an element of a script stands, those variables are set that the names
-- before its command set.
use Rattle.std.proofs.Common.{◌≡◌, zero, suc, ◌+◌, ◌-◌, ◌≤◌, cond, length, take, slice_get, arith, subst, ℕ, Bool, true, false, not, List, [], ◌∷◌, ◌++◌, drop, Option, None, Some, refl, sym, ap, ◌∙◌, append-nil, append_assoc}
use Rattle.std.proofs.lemmas.Grind.{flat_map-append}
use Rattle.std.proofs.lemmas.List.{length_push, reverse-append, take-append-le, take_at}
use Rattle.std.specs.List.{before_last, prefix_len, suffix_len}
use Rattle.std.specs.Prelude.{if◌then◌else◌}
use Rattle.sieve_syntax.specs.Tree.{Argument, strings, number, tag, Text, Test, test, Tests, no_tests, one_test, test_list, TestList, end_tests, more_tests, Command, command, Block, no_block, block, CommandList, end_commands, more_commands, command_list}
use Rattle.sieve_check.specs.Context.{Context, after, after_kind, inside, script_start}
use Rattle.sieve_check.specs.Element.{Element, among, argument_elements, block_elements, command_arguments, elements_of, judged_labels, labelled_elements, command_elements, command_list_elements, row_elements, test_arguments, test_elements, test_list_elements, tests_elements, text_elements, the_command, the_number, the_test, the_text}
use Rattle.sieve_check.specs.Naming.{HasSetBefore, element_mentions, is_command, mentions_in, Mention, command_mentions, set_by}
use Rattle.sieve_check.specs.Scope.{Scope, no_names}
use Rattle.sieve_check.specs.Use.{has_block, is_well_used}
use Rattle.sieve_script.specs.Role.{first_role}
use Rattle.sieve_script.specs.Shape.{known_labels, known_shapes}
use Rattle.sieve_table.specs.Table.{Row, command_row, test_row}
use Rattle.sieve_script.specs.declared.label.Label.{Label}
use Rattle.sieve_profile.specs.Profile.{Profile}
use Rattle.sieve_table.specs.Known.{known_command, known_test}
use Rattle.sieve_table.specs.declared.row.Role.{Role}
use Rattle.sieve_table.specs.declared.table.CommandKind.{CommandKind}
use Rattle.sieve_table.specs.declared.table.TestKind.{TestKind}
use Rattle.sieve_check.proofs.Naming.{after_mentions, block_writes, in_turn, kind_mentions, command_names, command_writes, commands_writes, set_so}

-- BEFORE EACH ELEMENT

-- Elements in turn: `done` are the names written before the command that they stand in, `own`
-- those that it writes.
abbrev Goes : (done own : List Mention) → List Element → Type 0
Goes done own [] = Unit {0}
Goes done own (the_command context name line args ts ending ∷ es) = (context.scope.assigned ≡ set_by (done ++ own)) × Goes (done ++ own) (command_mentions context.profile context.required (known_command context.profile name) args) es
Goes done own (the_test context name line args ts ∷ es) = (context.scope.assigned ≡ set_by done) × Goes done own es
Goes done own (the_text context role text ∷ es) = (context.scope.assigned ≡ set_by done) × Goes done own es
Goes done own (the_number value line ∷ es) = Goes done own es

-- the elements of one command go on before elements that go on
module _ (done own : List Mention) (context : Context) (so : context.scope.assigned ≡ set_by done) where
  texts_go : (ts : List Text) (role : Option Role) (es : List Element) → Goes done own es → Goes done own (text_elements context role ts ++ es)
  texts_go [] role es goes = goes
  texts_go (t ∷ ts) role es goes = (so, texts_go ts role es goes)

  argument_goes : (a : Argument) (role : Option Role) (es : List Element) → Goes done own es → Goes done own (argument_elements context role a ++ es)
  argument_goes (strings items bracketed) role es goes = texts_go items role es goes
  argument_goes (number value line) role es goes = goes
  argument_goes (tag name line) role es goes = goes

  arguments_go : (args : List Argument) (labels : List Label) (es : List Element) → Goes done own es → Goes done own (labelled_elements context labels args ++ es)
  arguments_go [] labels es goes = goes
  arguments_go (a ∷ args) labels es goes =
      subst (Goes done own) (sym (append_assoc (argument_elements context (first_role labels) a) (labelled_elements context (drop 1 labels) args) es))
      (argument_goes a (first_role labels) (labelled_elements context (drop 1 labels) args ++ es) (arguments_go args (drop 1 labels) es goes))

-- and so do those of a use of a row
module _ (done own : List Mention) (context : Context) (so : context.scope.assigned ≡ set_by done) where
  row_goes : (row : Row) (args : List Argument) (ts : Tests) (ends : Bool) (es : List Element) → Goes done own es → Goes done own (row_elements context row args ts ends ++ es)
  row_goes row args ts ends es goes =
      let labels = known_labels context.profile row args in
      arguments_go done own (among context labels) so args (judged_labels (is_well_used row (known_shapes context.profile row.tags args) ts ends) labels) es goes

  test_arguments_go : (k : Option TestKind) (args : List Argument) (ts : Tests) (es : List Element) → Goes done own es → Goes done own (test_arguments context k args ts ++ es)
  test_arguments_go None args ts es goes = arguments_go done own context so args [] es goes
  test_arguments_go (Some kind) args ts es goes = row_goes (test_row kind) args ts false es goes

  command_arguments_go : (k : Option CommandKind) (args : List Argument) (ts : Tests) (ending : Block) (es : List Element) → Goes done own es → Goes done own (command_arguments context k args ts ending ++ es)
  command_arguments_go None args ts ending es goes = arguments_go done own context so args [] es goes
  command_arguments_go (Some kind) args ts ending es goes = row_goes (command_row kind) args ts (has_block ending) es goes

  mutual
    unfolding test_elements tests_elements test_list_elements

    test_goes : (t : Test) (es : List Element) → Goes done own es → Goes done own (test_elements context t ++ es)
    test_goes (test name line args ts) es goes = (
      so,
      subst (Goes done own) (sym (append_assoc (test_arguments context (known_test context.profile name) args ts) (tests_elements context ts) es))
          (test_arguments_go (known_test context.profile name) args ts (tests_elements context ts ++ es) (tests_go ts es goes)),
    )

    tests_go : (ts : Tests) (es : List Element) → Goes done own es → Goes done own (tests_elements context ts ++ es)
    tests_go no_tests es goes = goes
    tests_go (one_test t) es goes = test_goes t es goes
    tests_go (test_list ts) es goes = test_list_goes ts es goes

    test_list_goes : (ts : TestList) (es : List Element) → Goes done own es → Goes done own (test_list_elements context ts ++ es)
    test_list_goes end_tests es goes = goes
    test_list_goes (more_tests t ts) es goes =
        subst (Goes done own) (sym (append_assoc (test_elements context t) (test_list_elements context ts) es))
        (test_goes t (test_list_elements context ts ++ es) (test_list_goes ts es goes))

-- a scope is the one after these names, from the start of a script on
abbrev Following : Scope → List Mention → Type 0
Following scope names = scope ≡ after_mentions no_names names

after_more : (scope next : Scope) (names more : List Mention) → Following scope names → next ≡ after_mentions scope more → Following next (names ++ more)
after_more scope next names more so is = is ∙ ap (λ s. after_mentions s more) so ∙ sym (in_turn names more no_names)

-- elements go on after these names, whichever of them are those of the last command
abbrev GoesOn : List Mention → List Element → Type 0
GoesOn names es = (done own : List Mention) → done ++ own ≡ names → Goes done own es

mutual
  unfolding command_elements block_elements command_list_elements

  command_goes : (n : Command) (context : Context) (done own : List Mention) → Following context.scope (done ++ own) → (es : List Element) → GoesOn ((done ++ own) ++ command_writes context n) es → Goes done own (command_elements context n ++ es)
  command_goes (command name line args ts ending) context done own so es goes =
      let k = known_command context.profile name in
      let its = command_mentions context.profile context.required k args in
      let within = after_kind context k args in
      let own_args = command_arguments context k args ts ending in
      let its_tests = tests_elements context ts in
      let its_block = block_elements within ending in
      let now = ap (λ s. s.assigned) so ∙ set_so (done ++ own) in (
        now,
        subst (Goes (done ++ own) its) (sym (append_assoc own_args (its_tests ++ its_block) es))
            (command_arguments_go (done ++ own) its context now k args ts ending ((its_tests ++ its_block) ++ es)
            (subst (Goes (done ++ own) its) (sym (append_assoc its_tests its_block es))
            (tests_go (done ++ own) its context now ts (its_block ++ es)
            (block_goes ending within (done ++ own) its
            (after_more context.scope within.scope (done ++ own) its so (kind_mentions context k args)) es
            (λ d o e. goes d o (e ∙ append_assoc (done ++ own) its (block_writes within ending))))))),
      )

  block_goes : (b : Block) (context : Context) (done own : List Mention) → Following context.scope (done ++ own) → (es : List Element) → GoesOn ((done ++ own) ++ block_writes context b) es → Goes done own (block_elements context b ++ es)
  block_goes no_block context done own so es goes = goes done own (sym (append-nil (done ++ own)))
  block_goes (block ns) context done own so es goes = commands_go ns (inside context) done own so es goes

  commands_go : (ns : CommandList) (context : Context) (done own : List Mention) → Following context.scope (done ++ own) → (es : List Element) → GoesOn ((done ++ own) ++ commands_writes context ns) es → Goes done own (command_list_elements context ns ++ es)
  commands_go end_commands context done own so es goes = goes done own (sym (append-nil (done ++ own)))
  commands_go (more_commands n ns) context done own so es goes =
      let next = after context n in
      let rest = command_list_elements next ns in
      let moved = after_more context.scope next.scope (done ++ own) (command_writes context n) so (command_names n context) in
      subst (Goes done own) (sym (append_assoc (command_elements context n) rest es))
      (command_goes n context done own so (rest ++ es)
      (λ d o e. commands_go ns next d o (moved ∙ sym (ap (after_mentions no_names) e)) es
      (λ d' o' e'. goes d' o' (e' ∙ ap (λ l. l ++ commands_writes next ns) e ∙ append_assoc (done ++ own) (command_writes context n) (commands_writes next ns)))))

all_go : (profile : Profile) (tree : List Command) → Goes [] [] (elements_of profile tree)
all_go profile tree = subst (Goes [] []) (append-nil (elements_of profile tree)) (commands_go (command_list tree) (script_start profile) [] [] refl [] (λ d o e. tt))

-- THE LAST COMMAND

suffix_push : {X : Type 0} (p : X → Bool) (x : X) (xs : List X) → suffix_len p (xs ++ x ∷ []) ≡ cond (p x) (1 + suffix_len p xs) 0
suffix_push p x xs = ap (prefix_len p) (reverse-append xs (x ∷ []))

-- the elements before the last one that passes, with one element more
module _ {X : Type 0} (p : X → Bool) (x : X) (xs : List X) where
  before_push : (b : Bool) → p x ≡ b → before_last p (xs ++ x ∷ []) ≡ (if b then xs else before_last p xs)
  before_push true is =
      let none : suffix_len (λ y. not (p y)) (xs ++ x ∷ []) ≡ 0 = suffix_push (λ y. not (p y)) x xs ∙ ap (λ b. cond (not b) (1 + suffix_len (λ y. not (p y)) xs) 0) is in
      let many = length_push xs x in
      let count : length (xs ++ x ∷ []) - suffix_len (λ y. not (p y)) (xs ++ x ∷ []) - 1 ≡ length xs = omega arith in
      ap (λ n. take n (xs ++ x ∷ [])) count ∙ take_at xs (x ∷ []) (length xs) refl
  before_push false is =
      let more : suffix_len (λ y. not (p y)) (xs ++ x ∷ []) ≡ 1 + suffix_len (λ y. not (p y)) xs = suffix_push (λ y. not (p y)) x xs ∙ ap (λ b. cond (not b) (1 + suffix_len (λ y. not (p y)) xs) 0) is in
      let many = length_push xs x in
      let count : length (xs ++ x ∷ []) - suffix_len (λ y. not (p y)) (xs ++ x ∷ []) - 1 ≡ length xs - suffix_len (λ y. not (p y)) xs - 1 = omega arith in
      let within : length xs - suffix_len (λ y. not (p y)) xs - 1 ≤ length xs = omega arith in
      ap (λ n. take n (xs ++ x ∷ [])) count ∙ take-append-le _ xs (x ∷ []) within

-- THE ELEMENT AT A PLACE

one_of : {X : Type 0} (a b : X) → Some a ≡ Some b → a ≡ b
one_of a b e = cc

-- `front` stands before the elements at hand
record StandsBefore (done own : List Mention) (front : List Element) : Type 0 where
  all : mentions_in front ≡ done ++ own
  old : mentions_in (before_last is_command front) ≡ done

here_goes : (e : Element) (es : List Element) (front : List Element) (done own : List Mention) → StandsBefore done own front → Goes done own (e ∷ es) → HasSetBefore front e
here_goes (the_command context name line args ts ending) es front done own stands goes = goes.0 ∙ sym (ap set_by stands.all)
here_goes (the_test context name line args ts) es front done own stands goes = goes.0 ∙ sym (ap set_by stands.old)
here_goes (the_text context role text) es front done own stands goes = goes.0 ∙ sym (ap set_by stands.old)
here_goes (the_number value line) es front done own stands goes = tt

more_mentions : (front : List Element) (e : Element) (names : List Mention) → mentions_in front ≡ names → mentions_in (front ++ e ∷ []) ≡ names ++ element_mentions e
more_mentions front e names all = flat_map-append element_mentions front (e ∷ []) ∙ ap (λ l. l ++ (element_mentions e ++ [])) all ∙ ap (λ l. names ++ l) (append-nil (element_mentions e))

-- `front` and a command after it stand before the elements of that command
command_stands : (front : List Element) (done own : List Mention) (context : Context) (name : List ℕ) (line : ℕ) (args : List Argument) (ts : Tests) (ending : Block) → StandsBefore done own front
    → StandsBefore (done ++ own) (command_mentions context.profile context.required (known_command context.profile name) args) (front ++ the_command context name line args ts ending ∷ [])
command_stands front done own context name line args ts ending stands =
    let e = the_command context name line args ts ending in
    record { all = more_mentions front e (done ++ own) stands.all; old = ap mentions_in (before_push is_command e front true refl) ∙ stands.all }

-- `front` and an element after it that is no command stand before the elements of the same command
other_stands : (front : List Element) (done own : List Mention) (e : Element) → is_command e ≡ false → element_mentions e ≡ [] → StandsBefore done own front → StandsBefore done own (front ++ e ∷ [])
other_stands front done own e other none stands = record {
  all = more_mentions front e (done ++ own) stands.all ∙ ap (λ l. (done ++ own) ++ l) none ∙ append-nil (done ++ own);
  old = ap mentions_in (before_push is_command e front false other) ∙ stands.old;
}

past : (front : List Element) (x e : Element) (es : List Element) → HasSetBefore ((front ++ x ∷ []) ++ es) e → HasSetBefore (front ++ (x ∷ es)) e
past front x e es so = subst (λ l. HasSetBefore l e) (append_assoc front (x ∷ []) es) so

each_goes : (es : List Element) (place : ℕ) (e : Element) (front : List Element) (done own : List Mention) → StandsBefore done own front → Goes done own es → slice_get es place ≡ Some e → HasSetBefore (front ++ take place es) e
each_goes [] place e front done own stands goes is = cc
each_goes (x ∷ es) zero e front done own stands goes is =
    subst (λ l. HasSetBefore l e) (sym (append-nil front)) (subst (HasSetBefore front) (one_of x e is) (here_goes x es front done own stands goes))
each_goes (the_command context name line args ts ending ∷ es) (suc place) e front done own stands goes is =
    past front (the_command context name line args ts ending) e (take place es)
    (each_goes es place e (front ++ the_command context name line args ts ending ∷ []) (done ++ own) (command_mentions context.profile context.required (known_command context.profile name) args) (command_stands front done own context name line args ts ending stands) goes.1 is)
each_goes (the_test context name line args ts ∷ es) (suc place) e front done own stands goes is =
    past front (the_test context name line args ts) e (take place es)
    (each_goes es place e (front ++ the_test context name line args ts ∷ []) done own (other_stands front done own (the_test context name line args ts) refl refl stands) goes.1 is)
each_goes (the_text context role text ∷ es) (suc place) e front done own stands goes is =
    past front (the_text context role text) e (take place es)
    (each_goes es place e (front ++ the_text context role text ∷ []) done own (other_stands front done own (the_text context role text) refl refl stands) goes.1 is)
each_goes (the_number value line ∷ es) (suc place) e front done own stands goes is =
    past front (the_number value line) e (take place es)
    (each_goes es place e (front ++ the_number value line ∷ []) done own (other_stands front done own (the_number value line) refl refl stands) goes is)

pub set_before : (profile : Profile) (tree : List Command) (place : ℕ) (element : Element) → slice_get (elements_of profile tree) place ≡ Some element → HasSetBefore (take place (elements_of profile tree)) element
set_before profile tree place element is = each_goes (elements_of profile tree) place element [] [] [] (record { all = refl; old = refl }) (all_go profile tree) is
