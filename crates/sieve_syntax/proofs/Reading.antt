-- The machine reads back what a tree writes.
use Rattle.std.proofs.Common.{◌≡◌, ℕ, zero, suc, ◌+◌, ◌<◌, true, false, if◌then◌else◌, List, [], ◌∷◌, ◌++◌, length, Option, Some, None, refl, sym, ap, ◌∙◌, arith, append_assoc, append-nil}
use Rattle.std.proofs.lemmas.Bool.{lt-ltb}
use Rattle.sieve_syntax.specs.Tree.{Text, Argument, strings, number, tag, Test, test, Tests, no_tests, one_test, test_list, TestList, end_tests, more_tests, tests, test_items, Command, command, Block, no_block, block, CommandList, end_commands, more_commands, command_list, items}
use Rattle.sieve_syntax.specs.Symbol.{Symbol, identifier, semicolon, open_brace, close_brace, open_parenthesis, close_parenthesis, close_bracket, comma}
use Rattle.sieve_syntax.specs.Grammar.{written_more, written_argument, written_arguments, written_test, written_tests, written_test_list, written_test_rest, written_command, written_block, written_commands, IsArgument, AreArguments, NestsTest, NestsTests, NestsTestList, NestsCommand, NestsBlock, NestsCommands}
use Rattle.sieve_syntax.specs.Machine.{Head, Level, for_one, for_list, Outer, ParserState, between, in_arguments, after_string, before_test, after_tests, bare_head, with_argument, test_with, command_of_parts, past_command, inside_block, after_command, after_listed, close, close_block, step}

-- the state after these symbols
unfoldable pub run : ℕ → ℕ → ParserState → List Symbol → Option ParserState
run depth room s [] = Some s
run depth room s (w ∷ ws) = elim (step depth room s w) [ Some next ↦ run depth room next ws | None ↦ None ]

-- the state after these symbols, the first of which ends a command or a test
unfoldable pub closed : ℕ → ℕ → Outer → List Level → Head → Tests → List Symbol → Option ParserState
closed depth room o ls h ts [] = None
closed depth room o ls h ts (w ∷ ws) = elim (close room o ls h ts w) [ Some next ↦ run depth room next ws | None ↦ None ]

-- symbols that begin with one that may end a command or a test
abbrev pub EndsFirst : List Symbol → Type 0
EndsFirst [] = ⊥
EndsFirst (semicolon ∷ ws) = Unit {0}
EndsFirst (open_brace ∷ ws) = Unit {0}
EndsFirst (comma ∷ ws) = Unit {0}
EndsFirst (close_parenthesis ∷ ws) = Unit {0}
EndsFirst (_ ∷ ws) = ⊥

pub command_list-items : (ns : CommandList) → command_list (items ns) ≡ ns
command_list-items end_commands = refl
command_list-items (more_commands n ns) = ap (more_commands n) (command_list-items ns)

pub items-command_list : (ns : List Command) → items (command_list ns) ≡ ns
items-command_list [] = refl
items-command_list (n ∷ ns) = ap (λ xs. n ∷ xs) (items-command_list ns)

pub tests-items : (ts : TestList) → tests (test_items ts) ≡ ts
tests-items end_tests = refl
tests-items (more_tests t ts) = ap (more_tests t) (tests-items ts)

abbrev with_arguments : Head → List Argument → Head
with_arguments h more = record { name = h.name; line = h.line; args = h.args ++ more }

module _ (depth room : ℕ) where
  read_more : (o : Outer) (ls : List Level) (h : Head) (before more : List Text) (ws : List Symbol) → run depth room (after_string o ls h before) (written_more more ++ close_bracket ∷ ws) ≡ run depth room (in_arguments o ls (with_argument h (strings (before ++ more) true))) ws
  unfolding run step
  read_more o ls h before [] ws = ap (λ xs. run depth room (in_arguments o ls (with_argument h (strings xs true))) ws) (sym (append-nil before))
  read_more o ls h before (t ∷ ts) ws =
      read_more o ls h (before ++ t ∷ []) ts ws ∙ ap (λ xs. run depth room (in_arguments o ls (with_argument h (strings xs true))) ws) (append_assoc before (t ∷ []) ts)

  read_argument : (o : Outer) (ls : List Level) (h : Head) (a : Argument) (ws : List Symbol) → IsArgument a → run depth room (in_arguments o ls h) (written_argument a ++ ws) ≡ run depth room (in_arguments o ls (with_argument h a)) ws
  unfolding run step
  read_argument o ls h (strings [] true) ws is = absurd is
  read_argument o ls h (strings [] false) ws is = absurd is
  read_argument o ls h (strings (t ∷ ts) true) ws is =
      ap (λ xs. run depth room (after_string o ls h (t ∷ [])) xs) (append_assoc (written_more ts) (close_bracket ∷ []) ws)
      ∙ read_more o ls h (t ∷ []) ts ws
  read_argument o ls h (strings (t ∷ []) false) ws is = refl
  read_argument o ls h (strings (t ∷ s ∷ ss) false) ws is = absurd is
  read_argument o ls h (number value line) ws is = refl
  read_argument o ls h (tag name line) ws is = refl

  read_arguments : (o : Outer) (ls : List Level) (h : Head) (more : List Argument) (ws : List Symbol) → AreArguments more → run depth room (in_arguments o ls h) (written_arguments more ++ ws) ≡ run depth room (in_arguments o ls (with_arguments h more)) ws
  read_arguments o ls h [] ws are = ap (λ xs. run depth room (in_arguments o ls (record { name = h.name; line = h.line; args = xs })) ws) (sym (append-nil h.args))
  read_arguments o ls h (a ∷ more) ws are =
      ap (run depth room (in_arguments o ls h)) (append_assoc (written_argument a) (written_arguments more) ws)
      ∙ read_argument o ls h a (written_arguments more ++ ws) are.0
      ∙ read_arguments o ls (with_argument h a) more ws are.1
      ∙ ap (λ xs. run depth room (in_arguments o ls (record { name = h.name; line = h.line; args = xs })) ws) (append_assoc h.args (a ∷ []) more)

  -- after arguments, a symbol that may end a command or a test ends it without tests
  pub read_no_tests : (o : Outer) (ls : List Level) (h : Head) (ws : List Symbol) → EndsFirst ws → run depth room (in_arguments o ls h) ws ≡ closed depth room o ls h no_tests ws
  unfolding run step closed
  read_no_tests o ls h [] ends = absurd ends
  read_no_tests o ls h (semicolon ∷ ws) ends = refl
  read_no_tests o ls h (open_brace ∷ ws) ends = refl
  read_no_tests o ls h (comma ∷ ws) ends = refl
  read_no_tests o ls h (close_parenthesis ∷ ws) ends = refl
  read_no_tests o ls h (_ ∷ ws) ends = absurd ends

  pub closed_one : (o : Outer) (ls : List Level) (g h : Head) (ts : Tests) (ws : List Symbol) → closed depth room o (for_one g ∷ ls) h ts ws ≡ closed depth room o ls g (one_test (test_with h ts)) ws
  unfolding closed close after_command after_listed
  closed_one o ls g h ts [] = refl
  closed_one o ls g h ts (w ∷ ws) = refl

  -- an identifier after arguments begins a test inside the command or the test, where
  -- there is depth
  enter_one : (o : Outer) (ls : List Level) (h : Head) (name : List ℕ) (line : ℕ) (ws : List Symbol) → length ls < depth → run depth room (in_arguments o ls h) (identifier name line ∷ ws) ≡ run depth room (in_arguments o (for_one h ∷ ls) (bare_head name line)) ws
  unfolding run step
  enter_one o ls h name line ws fits =
      ap (λ b. elim (if b then Some (in_arguments o (for_one h ∷ ls) (bare_head name line)) else None) as (λ x. Option ParserState) [ Some next ↦ run depth room next ws | None ↦ None ]) (lt-ltb (length ls) depth fits)

  -- an opening parenthesis after arguments begins a list of tests, where there is depth
  enter_list : (o : Outer) (ls : List Level) (h : Head) (ws : List Symbol) → length ls < depth → run depth room (in_arguments o ls h) (open_parenthesis ∷ ws) ≡ run depth room (before_test o (for_list h [] ∷ ls)) ws
  unfolding run step
  enter_list o ls h ws fits =
      ap (λ b. elim (if b then Some (before_test o (for_list h [] ∷ ls)) else None) as (λ x. Option ParserState) [ Some next ↦ run depth room next ws | None ↦ None ]) (lt-ltb (length ls) depth fits)

  pub after_list : (o : Outer) (ls : List Level) (h g : Head) (before : List Test) (ts : Tests) (ws : List Symbol) →
      closed depth room o (for_list h before ∷ ls) g ts (close_parenthesis ∷ ws) ≡ run depth room (after_tests o ls h (test_list (tests (before ++ test_with g ts ∷ [])))) ws
  unfolding closed close after_command after_listed
  after_list o ls h g before ts ws = refl

  next_in_list : (o : Outer) (ls : List Level) (h g : Head) (before : List Test) (ts : Tests) (name : List ℕ) (line : ℕ) (ws : List Symbol) →
      closed depth room o (for_list h before ∷ ls) g ts (comma ∷ identifier name line ∷ ws) ≡ run depth room (in_arguments o (for_list h (before ++ test_with g ts ∷ []) ∷ ls) (bare_head name line)) ws
  unfolding closed close after_command after_listed run step
  next_in_list o ls h g before ts name line ws = refl

  first_in_list : (o : Outer) (ls : List Level) (name : List ℕ) (line : ℕ) (ws : List Symbol) → run depth room (before_test o ls) (identifier name line ∷ ws) ≡ run depth room (in_arguments o ls (bare_head name line)) ws
  unfolding run step
  first_in_list o ls name line ws = refl

  pub end_list : (o : Outer) (ls : List Level) (h : Head) (ts : Tests) (ws : List Symbol) → EndsFirst ws → run depth room (after_tests o ls h ts) ws ≡ closed depth room o ls h ts ws
  unfolding run step closed
  end_list o ls h ts [] ends = absurd ends
  end_list o ls h ts (w ∷ ws) ends = refl

  rest_ends : (ts : TestList) (ws : List Symbol) → EndsFirst (written_test_rest ts ++ ws)
  unfolding written_test_rest
  rest_ends end_tests ws = tt
  rest_ends (more_tests t ts) ws = tt

  mutual
    unfolding written_tests written_test written_test_list written_test_rest NestsTests NestsTest NestsTestList

    read_tests : (ts : Tests) (o : Outer) (ls : List Level) (h : Head) (ws : List Symbol) (d : ℕ) → NestsTests ts d → d + length ls ≡ depth → EndsFirst ws → run depth room (in_arguments o ls h) (written_tests ts ++ ws) ≡ closed depth room o ls h ts ws
    read_tests no_tests o ls h ws d nests left ends = read_no_tests o ls h ws ends
    read_tests (one_test (test n l as' ts)) o ls h ws zero nests left ends = absurd nests
    read_tests (one_test (test n l as' ts)) o ls h ws (suc d) nests left ends =
        enter_one o ls h n l ((written_arguments as' ++ written_tests ts) ++ ws) (omega arith)
        ∙ ap (run depth room (in_arguments o (for_one h ∷ ls) (bare_head n l))) (append_assoc (written_arguments as') (written_tests ts) ws)
        ∙ read_arguments o (for_one h ∷ ls) (bare_head n l) as' (written_tests ts ++ ws) nests.0
        ∙ read_tests ts o (for_one h ∷ ls) (record { name = n; line = l; args = as' }) ws d nests.1 (omega arith) ends
        ∙ closed_one o ls h (record { name = n; line = l; args = as' }) ts ws
    read_tests (test_list end_tests) o ls h ws d nests left ends = absurd nests
    read_tests (test_list (more_tests (test n l as' ts) more)) o ls h ws zero nests left ends = absurd nests
    read_tests (test_list (more_tests (test n l as' ts) more)) o ls h ws (suc d) nests left ends =
        let g : Head = record { name = n; line = l; args = as' } in
        enter_list o ls h _ (omega arith)
        ∙ first_in_list o (for_list h [] ∷ ls) n l (((written_arguments as' ++ written_tests ts) ++ written_test_rest more) ++ ws)
        ∙ ap (run depth room (in_arguments o (for_list h [] ∷ ls) (bare_head n l))) (append_assoc (written_arguments as' ++ written_tests ts) (written_test_rest more) ws ∙ append_assoc (written_arguments as') (written_tests ts) (written_test_rest more ++ ws))
        ∙ read_arguments o (for_list h [] ∷ ls) (bare_head n l) as' (written_tests ts ++ (written_test_rest more ++ ws)) nests.0.0
        ∙ read_tests ts o (for_list h [] ∷ ls) g (written_test_rest more ++ ws) d nests.0.1 (omega arith) (rest_ends more ws)
        ∙ read_rest more o ls h g ts [] ws d nests.1 (omega arith) ends
        ∙ ap (λ x. closed depth room o ls h (test_list (more_tests (test n l as' ts) x)) ws) (tests-items more)

    read_rest : (more : TestList) (o : Outer) (ls : List Level) (h g : Head) (ts : Tests) (before : List Test) (ws : List Symbol) (d : ℕ) → NestsTestList more d → suc (d + length ls) ≡ depth → EndsFirst ws →
        closed depth room o (for_list h before ∷ ls) g ts (written_test_rest more ++ ws) ≡ closed depth room o ls h (test_list (tests (before ++ test_with g ts ∷ test_items more))) ws
    read_rest end_tests o ls h g ts before ws d nests left ends =
        after_list o ls h g before ts ws ∙ end_list o ls h (test_list (tests (before ++ test_with g ts ∷ []))) ws ends
    read_rest (more_tests (test n l as' us) more) o ls h g ts before ws d nests left ends =
        let t : Test = test_with g ts in
        let k : Head = record { name = n; line = l; args = as' } in
        next_in_list o ls h g before ts n l (((written_arguments as' ++ written_tests us) ++ written_test_rest more) ++ ws)
        ∙ ap (run depth room (in_arguments o (for_list h (before ++ t ∷ []) ∷ ls) (bare_head n l))) (append_assoc (written_arguments as' ++ written_tests us) (written_test_rest more) ws ∙ append_assoc (written_arguments as') (written_tests us) (written_test_rest more ++ ws))
        ∙ read_arguments o (for_list h (before ++ t ∷ []) ∷ ls) (bare_head n l) as' (written_tests us ++ (written_test_rest more ++ ws)) nests.0.0
        ∙ read_tests us o (for_list h (before ++ t ∷ []) ∷ ls) k (written_test_rest more ++ ws) d nests.0.1 (omega arith) (rest_ends more ws)
        ∙ read_rest more o ls h k us (before ++ t ∷ []) ws d nests.1 left ends
        ∙ ap (λ x. closed depth room o ls h (test_list (tests x)) ws) (append_assoc before (t ∷ []) (test_with k us ∷ test_items more))

  -- COMMANDS

  block_ends : (b : Block) (ws : List Symbol) → EndsFirst (written_block b ++ ws)
  unfolding written_block
  block_ends no_block ws = tt
  block_ends (block ns) ws = tt

  pub end_command : (o : Outer) (h : Head) (ts : Tests) (ws : List Symbol) → closed depth room o [] h ts (semicolon ∷ ws) ≡ run depth room (between (past_command o (command_of_parts h ts no_block))) ws
  unfolding closed close after_command after_listed
  end_command o h ts ws = refl

  enter_block : (o : Outer) (h : Head) (ts : Tests) (ws : List Symbol) → length o.blocks < room → closed depth room o [] h ts (open_brace ∷ ws) ≡ run depth room (between (inside_block o h ts)) ws
  unfolding closed close after_command after_listed
  enter_block o h ts ws fits =
      ap (λ b. elim (if b then Some (between (inside_block o h ts)) else None) as (λ x. Option ParserState) [ Some next ↦ run depth room next ws | None ↦ None ]) (lt-ltb (length o.blocks) room fits)

  leave_block : (o : Outer) (h : Head) (ts : Tests) (done : List Command) (ws : List Symbol) →
      run depth room (between (record { blocks = record { done = o.done; head = h; tests = ts } ∷ o.blocks; done = done })) (close_brace ∷ ws) ≡ run depth room (between (past_command o (command_of_parts h ts (block (command_list done))))) ws
  unfolding run step close_block
  leave_block o h ts done ws = refl

  enter_command : (o : Outer) (name : List ℕ) (line : ℕ) (ws : List Symbol) → run depth room (between o) (identifier name line ∷ ws) ≡ run depth room (in_arguments o [] (bare_head name line)) ws
  unfolding run step
  enter_command o name line ws = refl

  mutual
    unfolding written_command written_block written_commands NestsCommand NestsBlock NestsCommands

    reads_command : (n : Command) (o : Outer) (ws : List Symbol) (r : ℕ) → NestsCommand depth n r → r + length o.blocks ≡ room → run depth room (between o) (written_command n ++ ws) ≡ run depth room (between (past_command o n)) ws
    reads_command (command n l as' ts ending) o ws r nests left =
        let h : Head = record { name = n; line = l; args = as' } in
        enter_command o n l ((written_arguments as' ++ written_tests ts ++ written_block ending) ++ ws)
        ∙ ap (run depth room (in_arguments o [] (bare_head n l))) (append_assoc (written_arguments as' ++ written_tests ts) (written_block ending) ws ∙ append_assoc (written_arguments as') (written_tests ts) (written_block ending ++ ws))
        ∙ read_arguments o [] (bare_head n l) as' (written_tests ts ++ (written_block ending ++ ws)) nests.0
        ∙ read_tests ts o [] h (written_block ending ++ ws) depth nests.1 (omega arith) (block_ends ending ws)
        ∙ read_block ending o h ts ws r nests.2 left

    read_block : (b : Block) (o : Outer) (h : Head) (ts : Tests) (ws : List Symbol) (r : ℕ) → NestsBlock depth b r → r + length o.blocks ≡ room → closed depth room o [] h ts (written_block b ++ ws) ≡ run depth room (between (past_command o (command_of_parts h ts b))) ws
    read_block no_block o h ts ws r nests left = end_command o h ts ws
    read_block (block ns) o h ts ws zero nests left = absurd nests
    read_block (block ns) o h ts ws (suc r) nests left =
        enter_block o h ts ((written_commands ns ++ close_brace ∷ []) ++ ws) (omega arith)
        ∙ ap (run depth room (between (inside_block o h ts))) (append_assoc (written_commands ns) (close_brace ∷ []) ws)
        ∙ reads_commands ns (inside_block o h ts) (close_brace ∷ ws) r nests (omega arith)
        ∙ leave_block o h ts (items ns) ws
        ∙ ap (λ x. run depth room (between (past_command o (command_of_parts h ts (block x)))) ws) (command_list-items ns)

    pub reads_commands : (ns : CommandList) (o : Outer) (ws : List Symbol) (r : ℕ) → NestsCommands depth ns r → r + length o.blocks ≡ room → run depth room (between o) (written_commands ns ++ ws) ≡ run depth room (between (record { blocks = o.blocks; done = o.done ++ items ns })) ws
    reads_commands end_commands o ws r nests left = ap (λ x. run depth room (between (record { blocks = o.blocks; done = x })) ws) (sym (append-nil o.done))
    reads_commands (more_commands n ns) o ws r nests left =
        ap (run depth room (between o)) (append_assoc (written_command n) (written_commands ns) ws)
        ∙ reads_command n o (written_commands ns ++ ws) r nests.0 left
        ∙ reads_commands ns (past_command o n) ws r nests.1 left
        ∙ ap (λ x. run depth room (between (record { blocks = o.blocks; done = x })) ws) (append_assoc o.done (n ∷ []) (items ns))
