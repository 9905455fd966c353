-- The identifiers, strings and numbers that a tree writes are its elements, one by
-- one and in order.
use Rattle.std.proofs.Common.{◌≡◌, ℕ, Bool, true, false, cond, List, [], ◌∷◌, ◌++◌, map, drop, Option, None, Some, refl, sym, ap, ◌∙◌, append_assoc, append-nil}
use Rattle.std.proofs.lemmas.List.{map-append}
use Rattle.std.proofs.lemmas.List.Elements.{filter-append}
use Rattle.std.specs.List.{filter}
use Rattle.sieve_syntax.specs.Grammar.{WritesSymbols, written_argument, written_arguments, written_block, written_more, written_command, written_commands, written_test, written_test_list, written_test_rest, written_tests, written_texts}
use Rattle.sieve_syntax.specs.Tree.{Command, command, CommandList, end_commands, more_commands, command_list, Block, no_block, block, Test, test, Tests, no_tests, one_test, test_list, TestList, end_tests, more_tests, Text, Argument, strings, number, tag}
use Rattle.sieve_syntax.specs.Symbol.{Symbol, close_bracket, identifier, string_symbol, symbol_of, symbols_of}
use Rattle.sieve_syntax.specs.declared.token.Token.{Token}
use Rattle.sieve_check.specs.Context.{Context, after, after_kind, inside, script_start}
use Rattle.sieve_check.specs.Element.{Element, among, argument_elements, block_elements, command_arguments, elements_of, judged_labels, labelled_elements, command_elements, command_list_elements, test_arguments, test_elements, test_list_elements, tests_elements, text_elements}
use Rattle.sieve_check.specs.Order.{writes_element, written_by}
use Rattle.sieve_script.specs.Role.{first_role}
use Rattle.sieve_profile.specs.Profile.{Profile}
use Rattle.sieve_script.specs.Shape.{known_labels, known_shapes}
use Rattle.sieve_table.specs.Known.{known_command, known_test}
use Rattle.sieve_table.specs.Table.{command_row, test_row}
use Rattle.sieve_check.specs.Use.{has_block, is_well_used}
use Rattle.sieve_script.specs.declared.label.Label.{Label}
use Rattle.sieve_table.specs.declared.row.Role.{Role}
use Rattle.sieve_table.specs.declared.table.CommandKind.{CommandKind}
use Rattle.sieve_table.specs.declared.table.TestKind.{TestKind}

-- these elements are written by those among these words that write elements
abbrev AreWritten : List Element → List Symbol → Type 0
AreWritten elements words = map written_by elements ≡ filter writes_element words

in_turn : (xs ys : List Element) (v w : List Symbol) → AreWritten xs v → AreWritten ys w → AreWritten (xs ++ ys) (v ++ w)
in_turn xs ys v w first second =
    map-append written_by xs ys
    ∙ ap (λ l. l ++ map written_by ys) first
    ∙ ap (λ l. filter writes_element v ++ l) second
    ∙ sym (filter-append writes_element v w)

-- elements that are written stay so with words after that write none
before_close : (xs : List Element) (v w : List Symbol) → filter writes_element w ≡ [] → AreWritten xs v → AreWritten xs (v ++ w)
before_close xs v w none same =
    same
    ∙ sym (append-nil (filter writes_element v))
    ∙ ap (λ l. filter writes_element v ++ l) (sym none)
    ∙ sym (filter-append writes_element v w)

-- ARGUMENTS

module _ (context : Context) where
  more_texts : (role : Option Role) (ts : List Text) → AreWritten (text_elements context role ts) (written_more ts)
  more_texts role [] = refl
  more_texts role (t ∷ ts) = ap (λ l. string_symbol t.string t.line ∷ l) (more_texts role ts)

  texts : (role : Option Role) (ts : List Text) → AreWritten (text_elements context role ts) (written_texts ts)
  texts role [] = refl
  texts role (t ∷ ts) = ap (λ l. string_symbol t.string t.line ∷ l) (more_texts role ts)

  argument : (role : Option Role) (a : Argument) → AreWritten (argument_elements context role a) (written_argument a)
  argument role (strings items true) = before_close (text_elements context role items) (written_texts items) (close_bracket ∷ []) refl (texts role items)
  argument role (strings items false) = texts role items
  argument role (number value line) = refl
  argument role (tag name line) = refl

  -- the elements of arguments are written by them, whatever their labels are
  arguments : (labels : List Label) (args : List Argument) → AreWritten (labelled_elements context labels args) (written_arguments args)
  arguments labels [] = refl
  arguments labels (a ∷ args) =
      in_turn (argument_elements context (first_role labels) a) (labelled_elements context (drop 1 labels) args) (written_argument a) (written_arguments args)
      (argument (first_role labels) a) (arguments (drop 1 labels) args)

module _ (context : Context) where
  of_test : (k : Option TestKind) (args : List Argument) (ts : Tests) → AreWritten (test_arguments context k args ts) (written_arguments args)
  of_test None args ts = arguments context [] args
  of_test (Some k) args ts = let row = test_row k in arguments (among context (known_labels context.profile row args)) (judged_labels (is_well_used row (known_shapes context.profile row.tags args) ts false) (known_labels context.profile row args)) args

  of_command : (k : Option CommandKind) (args : List Argument) (ts : Tests) (ending : Block) → AreWritten (command_arguments context k args ts ending) (written_arguments args)
  of_command None args ts ending = arguments context [] args
  of_command (Some k) args ts ending = let row = command_row k in arguments (among context (known_labels context.profile row args)) (judged_labels (is_well_used row (known_shapes context.profile row.tags args) ts (has_block ending)) (known_labels context.profile row args)) args

-- TESTS

mutual
  unfolding test_elements tests_elements test_list_elements written_test written_tests written_test_list written_test_rest

  test_written : (t : Test) (context : Context) → AreWritten (test_elements context t) (written_test t)
  test_written (test name line args ts) context =
      ap (λ l. identifier name line ∷ l)
      (in_turn (test_arguments context (known_test context.profile name) args ts) (tests_elements context ts) (written_arguments args) (written_tests ts)
      (of_test context (known_test context.profile name) args ts) (tests_written ts context))

  tests_written : (ts : Tests) (context : Context) → AreWritten (tests_elements context ts) (written_tests ts)
  tests_written no_tests context = refl
  tests_written (one_test t) context = test_written t context
  tests_written (test_list ts) context = list_written ts context

  list_written : (ts : TestList) (context : Context) → AreWritten (test_list_elements context ts) (written_test_list ts)
  list_written end_tests context = refl
  list_written (more_tests t ts) context =
      in_turn (test_elements context t) (test_list_elements context ts) (written_test t) (written_test_rest ts) (test_written t context) (rest_written ts context)

  rest_written : (ts : TestList) (context : Context) → AreWritten (test_list_elements context ts) (written_test_rest ts)
  rest_written end_tests context = refl
  rest_written (more_tests t ts) context =
      in_turn (test_elements context t) (test_list_elements context ts) (written_test t) (written_test_rest ts) (test_written t context) (rest_written ts context)

-- COMMANDS

mutual
  unfolding command_elements block_elements command_list_elements written_command written_block written_commands

  command_written : (n : Command) (context : Context) → AreWritten (command_elements context n) (written_command n)
  command_written (command name line args ts ending) context =
      let args_written = written_arguments args in
      let inner = after_kind context (known_command context.profile name) args in
      ap (λ l. identifier name line ∷ l)
      (in_turn (command_arguments context (known_command context.profile name) args ts ending) (tests_elements context ts ++ block_elements inner ending) args_written (written_tests ts ++ written_block ending)
      (of_command context (known_command context.profile name) args ts ending)
      (in_turn (tests_elements context ts) (block_elements inner ending) (written_tests ts) (written_block ending) (tests_written ts context) (block_is_written ending inner))
      ∙ ap (filter writes_element) (sym (append_assoc args_written (written_tests ts) (written_block ending))))

  block_is_written : (b : Block) (context : Context) → AreWritten (block_elements context b) (written_block b)
  block_is_written no_block context = refl
  block_is_written (block ns) context = before_close (command_list_elements (inside context) ns) (written_commands ns) _ refl (commands_written ns (inside context))

  commands_written : (ns : CommandList) (context : Context) → AreWritten (command_list_elements context ns) (written_commands ns)
  commands_written end_commands context = refl
  commands_written (more_commands n ns) context =
      in_turn (command_elements context n) (command_list_elements (after context n) ns) (written_command n) (written_commands ns) (command_written n context) (commands_written ns (after context n))

-- THE TOKENS

filtered : {X : Type 0} (view : X → Symbol) (xs : List X) → filter writes_element (map view xs) ≡ map view (filter (λ x. writes_element (view x)) xs)
filtered view [] = refl
filtered view (x ∷ xs) = by_first (writes_element (view x)) (filtered view xs)
  where
    by_first : (b : Bool) → filter writes_element (map view xs) ≡ map view (filter (λ x. writes_element (view x)) xs)
        → cond b (view x ∷ filter writes_element (map view xs)) (filter writes_element (map view xs)) ≡ map view (cond b (x ∷ filter (λ x. writes_element (view x)) xs) (filter (λ x. writes_element (view x)) xs))
    by_first true same = ap (λ l. view x ∷ l) same
    by_first false same = same

-- the elements of a tree are written by those of its tokens that write elements
pub elements_written : (profile : Profile) (tree : List Command) (text : List ℕ) (tokens : List Token) (depth room : ℕ) → WritesSymbols depth room tree (symbols_of text tokens)
    → map written_by (elements_of profile tree) ≡ map (symbol_of text) (filter (λ token. writes_element (symbol_of text token)) tokens)
elements_written profile tree text tokens depth room writes =
    commands_written (command_list tree) (script_start profile)
    ∙ ap (filter writes_element) (sym writes.1)
    ∙ filtered (symbol_of text) tokens
