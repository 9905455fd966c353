-- The machine against the grammar, and against the tokens of a text.
use Rattle.std.proofs.Common.{◌≡◌, ℕ, ◌⊎◌, inl, inr, List, [], ◌∷◌, ◌++◌, length, Option, Some, None, Result, Ok, Err, refl, sym, ap, ◌∙◌, subst, arith, append_assoc, append-nil}
use Rattle.std.proofs.lemmas.Option.{same_Some}
use Rattle.sieve_syntax.specs.Tree.{Tests, no_tests, one_test, test_list, tests, Command, no_block, block, command_list}
use Rattle.sieve_syntax.specs.Token.{line_at}
use Rattle.sieve_syntax.specs.Symbol.{Symbol, identifier, string_symbol, semicolon, close_brace, close_parenthesis, close_bracket, symbol_of, symbols_of}
use Rattle.sieve_syntax.specs.Grammar.{written_commands, NestsCommands, WritesSymbols, BeginsAt}
use Rattle.sieve_syntax.specs.Machine.{Head, Level, for_one, for_list, Open, Outer, ParserState, between, in_arguments, before_string, after_string, before_test, after_tests, bare_head, test_with, command_of_parts, close_block, step, start, whole, whole_outer, read}
use Rattle.sieve_syntax.specs.Syntax.{IsFaultAt, IsFaultAtEnd}
use Rattle.sieve_syntax.specs.declared.token.Token.{Token}
use Rattle.sieve_syntax.proofs.Cases.{by_option}
use Rattle.sieve_syntax.proofs.Reading.{run, closed, EndsFirst, items-command_list, closed_one, after_list, end_list, end_command, read_no_tests, reads_commands}
use Rattle.sieve_syntax.proofs.Writing.{state_symbols, IsReached, Takes, step_takes}

abbrev pub ended : List Command → ParserState
ended tree = between (record { blocks = []; done = tree })

module _ (depth room : ℕ) where
  run_takes : (ws : List Symbol) (s t : ParserState) → IsReached depth room s → run depth room s ws ≡ Some t → IsReached depth room t × (state_symbols t ≡ state_symbols s ++ ws)
  unfolding run
  run_takes [] s t is e =
      let same : s ≡ t = cc in
      (subst (IsReached depth room) same is, ap state_symbols (sym same) ∙ sym (append-nil (state_symbols s)))
  run_takes (w ∷ ws) s t is e =
      by_option (step depth room s w) (λ o. step depth room s w ≡ o → elim o as (λ x. Option ParserState) [ Some next ↦ run depth room next ws | None ↦ None ] ≡ Some t → IsReached depth room t × (state_symbols t ≡ state_symbols s ++ w ∷ ws))
      (λ next q p f.
      let one : Takes depth room (state_symbols s) w next = step_takes depth room s w next is p in
      let more = run_takes ws next t one.reached f in
      (more.0, more.1 ∙ ap (λ x. x ++ ws) one.symbols ∙ append_assoc (state_symbols s) (w ∷ []) ws))
      (λ q p f. cc) refl e

  -- EACH STATE CAN BE CLOSED

  record Closes (s : ParserState) : Type 0 where
    more : List Symbol
    tree : List Command
    runs : run depth room s more ≡ Some (ended tree)

  record ClosesLevels (o : Outer) (ls : List Level) (h : Head) (ts : Tests) : Type 0 where
    more : List Symbol
    tree : List Command
    ends : EndsFirst more
    runs : closed depth room o ls h ts more ≡ Some (ended tree)

  closes_blocks : (bs : List Open) (done : List Command) → Closes (between (record { blocks = bs; done = done }))
  unfolding run step close_block
  closes_blocks [] done = record { more = []; tree = done; runs = refl }
  closes_blocks (b ∷ bs) done =
      let outer = closes_blocks bs (b.done ++ command_of_parts b.head b.tests (block (command_list done)) ∷ []) in
      record { more = close_brace ∷ outer.more; tree = outer.tree; runs = outer.runs }

  closes_levels : (ls : List Level) (o : Outer) (h : Head) (ts : Tests) → ClosesLevels o ls h ts
  closes_levels [] o h ts =
      let outer = closes_blocks o.blocks (o.done ++ command_of_parts h ts no_block ∷ []) in
      record { more = semicolon ∷ outer.more; tree = outer.tree; ends = tt; runs = end_command depth room o h ts outer.more ∙ outer.runs }
  closes_levels (for_one g ∷ ls) o h ts =
      let outer = closes_levels ls o g (one_test (test_with h ts)) in
      record { more = outer.more; tree = outer.tree; ends = outer.ends; runs = closed_one depth room o ls g h ts outer.more ∙ outer.runs }
  closes_levels (for_list g before ∷ ls) o h ts =
      let list : Tests = test_list (tests (before ++ test_with h ts ∷ [])) in
      let outer = closes_levels ls o g list in
      record {
        more = close_parenthesis ∷ outer.more;
        tree = outer.tree;
        ends = tt;
        runs = after_list depth room o ls g h before ts outer.more ∙ end_list depth room o ls g list outer.more outer.ends ∙ outer.runs;
      }

  closes_arguments : (o : Outer) (ls : List Level) (h : Head) → Closes (in_arguments o ls h)
  closes_arguments o ls h =
      let outer = closes_levels ls o h no_tests in
      record { more = outer.more; tree = outer.tree; runs = read_no_tests depth room o ls h outer.more outer.ends ∙ outer.runs }

  closes : (s : ParserState) → Closes s
  unfolding run step
  closes (between o) = closes_blocks o.blocks o.done
  closes (in_arguments o ls h) = closes_arguments o ls h
  closes (before_string o ls h before) =
      let outer = closes_arguments o ls _ in
      record { more = string_symbol [] 0 ∷ close_bracket ∷ outer.more; tree = outer.tree; runs = outer.runs }
  closes (after_string o ls h before) =
      let outer = closes_arguments o ls _ in
      record { more = close_bracket ∷ outer.more; tree = outer.tree; runs = outer.runs }
  closes (before_test o ls) =
      let outer = closes_arguments o ls (bare_head [] 0) in
      record { more = identifier [] 0 ∷ outer.more; tree = outer.tree; runs = outer.runs }
  closes (after_tests o ls h ts) =
      let outer = closes_levels ls o h ts in
      record { more = outer.more; tree = outer.tree; runs = end_list depth room o ls h ts outer.more outer.ends ∙ outer.runs }

  -- THE MACHINE AND THE GRAMMAR

  start_reached : IsReached depth room start
  unfolding NestsCommands
  start_reached = record { left = room; blocks = refl; done = tt }

  ended_writes : (tree : List Command) (ws : List Symbol) → run depth room start ws ≡ Some (ended tree) → WritesSymbols depth room tree ws
  unfolding written_commands
  ended_writes tree ws e =
      let t = run_takes ws start (ended tree) start_reached e in
      (subst (NestsCommands depth (command_list tree)) t.0.blocks t.0.done, sym t.1)

  run-append : (xs ys : List Symbol) (s t : ParserState) → run depth room s xs ≡ Some t → run depth room s (xs ++ ys) ≡ run depth room t ys
  unfolding run
  run-append [] ys s t e = let same : s ≡ t = cc in ap (λ x. run depth room x ys) same
  run-append (w ∷ xs) ys s t e =
      by_option (step depth room s w) (λ o. elim o as (λ x. Option ParserState) [ Some next ↦ run depth room next xs | None ↦ None ] ≡ Some t → elim o as (λ x. Option ParserState) [ Some next ↦ run depth room next (xs ++ ys) | None ↦ None ] ≡ run depth room t ys)
      (λ next p f. run-append xs ys next t f) (λ p f. cc) e

  run-none : (xs ys : List Symbol) (s : ParserState) → run depth room s xs ≡ None → run depth room s (xs ++ ys) ≡ None
  unfolding run
  run-none [] ys s e = cc
  run-none (w ∷ xs) ys s e =
      by_option (step depth room s w) (λ o. elim o as (λ x. Option ParserState) [ Some next ↦ run depth room next xs | None ↦ None ] ≡ None → elim o as (λ x. Option ParserState) [ Some next ↦ run depth room next (xs ++ ys) | None ↦ None ] ≡ None)
      (λ next p f. run-none xs ys next f) (λ p f. refl) e

  pub writes_runs : (tree : List Command) (ws : List Symbol) → WritesSymbols depth room tree ws → run depth room start ws ≡ Some (ended tree)
  unfolding run
  writes_runs tree ws h =
      ap (run depth room start) (h.1 ∙ sym (append-nil (written_commands (command_list tree))))
      ∙ reads_commands depth room (command_list tree) (record { blocks = []; done = [] }) [] room h.0 (omega arith)
      ∙ ap (λ x. Some (ended x)) (items-command_list tree)

  runs_begin : (ws : List Symbol) (s : ParserState) → run depth room start ws ≡ Some s → BeginsAt depth room ws
  runs_begin ws s e =
      let c : Closes s = closes s in
      (c.more, c.tree, ended_writes c.tree (ws ++ c.more) (run-append ws c.more start s e ∙ c.runs))

  begins_run : (ws : List Symbol) → BeginsAt depth room ws → (s : ParserState) × (run depth room start ws ≡ Some s)
  begins_run ws h =
      by_option (run depth room start ws) (λ o. (s : ParserState) × (o ≡ Some s)) (λ s e. (s, refl))
      (λ e. absurd (let p = run-none ws h.0 start e in let q = writes_runs h.1 (ws ++ h.0) h.2 in cc))

  -- THE MACHINE AND THE TOKENS OF A TEXT

  module _ (text : List ℕ) where
    -- where tokens lead from one state to another, the tokens after them are read from the other
    read-run : (xs ys : List Token) (s t : ParserState) → run depth room s (symbols_of text xs) ≡ Some t → read depth room text s (xs ++ ys) ≡ read depth room text t ys
    unfolding run read
    read-run [] ys s t e = let same : s ≡ t = cc in ap (λ x. read depth room text x ys) same
    read-run (x ∷ xs) ys s t e =
        by_option (step depth room s (symbol_of text x)) (λ o. elim o as (λ z. Option ParserState) [ Some next ↦ run depth room next (symbols_of text xs) | None ↦ None ] ≡ Some t → elim o as (λ z. Result (List Command) ℕ) [ Some next ↦ read depth room text next (xs ++ ys) | None ↦ Err x.line ] ≡ read depth room text t ys)
        (λ next p f. read-run xs ys next t f) (λ p f. cc) e

    read-end : (s : ParserState) → read depth room text s [] ≡ elim (whole s) as (λ z. Result (List Command) ℕ) [ Some tree ↦ Ok tree | None ↦ Err (line_at text (length text)) ]
    unfolding read
    read-end s = refl

    read-stuck : (s : ParserState) (token : Token) (rest : List Token) → step depth room s (symbol_of text token) ≡ None → read depth room text s (token ∷ rest) ≡ Err token.line
    unfolding read
    read-stuck s token rest e = ap (λ o. elim o as (λ z. Result (List Command) ℕ) [ Some next ↦ read depth room text next rest | None ↦ Err token.line ]) e

    run-stuck : (s : ParserState) (w : Symbol) (ws : List Symbol) → step depth room s w ≡ None → run depth room s (w ∷ ws) ≡ None
    unfolding run
    run-stuck s w ws e = ap (λ o. elim o as (λ z. Option ParserState) [ Some next ↦ run depth room next ws | None ↦ None ]) e

    run-one : (s t : ParserState) (w : Symbol) → step depth room s w ≡ Some t → run depth room s (w ∷ []) ≡ Some t
    unfolding run
    run-one s t w e = ap (λ o. elim o as (λ z. Option ParserState) [ Some next ↦ Some next | None ↦ None ]) e

    symbols-append : (xs ys : List Token) → symbols_of text (xs ++ ys) ≡ symbols_of text xs ++ symbols_of text ys
    symbols-append [] ys = refl
    symbols-append (x ∷ xs) ys = ap (λ z. symbol_of text x ∷ z) (symbols-append xs ys)

    run-more : (front : List Token) (token : Token) (s t : ParserState) → run depth room start (symbols_of text front) ≡ Some s → step depth room s (symbol_of text token) ≡ Some t → run depth room start (symbols_of text (front ++ token ∷ [])) ≡ Some t
    run-more front token s t e f =
        ap (run depth room start) (symbols-append front (token ∷ []))
        ∙ run-append (symbols_of text front) (symbol_of text token ∷ []) start s e
        ∙ run-one s t (symbol_of text token) f

    -- the tokens up to one that the state does not take begin nothing that a tree writes
    stuck_stops : (front : List Token) (token : Token) (s : ParserState) → run depth room start (symbols_of text front) ≡ Some s → step depth room s (symbol_of text token) ≡ None → BeginsAt depth room (symbols_of text (front ++ token ∷ [])) → ⊥
    stuck_stops front token s e f h =
        let b = begins_run _ h in
        let none : run depth room start (symbols_of text (front ++ token ∷ [])) ≡ None =
        ap (run depth room start) (symbols-append front (token ∷ []))
        ∙ run-append (symbols_of text front) (symbol_of text token ∷ []) start s e
        ∙ run-stuck s (symbol_of text token) [] f in
        let some = b.1 in
        let clash : Some b.0 ≡ None = sym some ∙ none in
        cc

    -- no tree writes the tokens where the state after them is not whole
    part_stops : (tokens : List Token) (s : ParserState) → run depth room start (symbols_of text tokens) ≡ Some s → whole s ≡ None → (tree : List Command) → WritesSymbols depth room tree (symbols_of text tokens) → ⊥
    unfolding whole
    part_stops tokens s e f tree h =
        let p = writes_runs tree _ h in
        let same : s ≡ ended tree = same_Some _ _ (sym e ∙ p) in
        let clash : Some tree ≡ None = sym (ap whole same) ∙ f in
        cc

    whole_ended : (s : ParserState) (tree : List Command) → whole s ≡ Some tree → s ≡ ended tree
    unfolding whole
    whole_ended (between o) tree e = go o.blocks o.done e
      where
        go : (bs : List Open) (done : List Command) → whole_outer bs done ≡ Some tree → between (record { blocks = bs; done = done }) ≡ ended tree
        go [] done e = ap ended (same_Some _ _ e)
        go (b ∷ bs) done e = cc
    whole_ended (in_arguments o ls h) tree e = cc
    whole_ended (before_string o ls h before) tree e = cc
    whole_ended (after_string o ls h before) tree e = cc
    whole_ended (before_test o ls) tree e = cc
    whole_ended (after_tests o ls h ts) tree e = cc

    -- the result of reading tokens: a tree that writes their symbols, or the line of their fault
    abbrev pub IsRead : List Token → Result (List Command) ℕ → Type 0
    IsRead tokens (Ok tree) = WritesSymbols depth room tree (symbols_of text tokens)
    IsRead tokens (Err line) = IsFaultAt depth room text tokens line ⊎ IsFaultAtEnd depth room text tokens line

    read_is_from : (rest front : List Token) (s : ParserState) → run depth room start (symbols_of text front) ≡ Some s → IsRead (front ++ rest) (read depth room text s rest)
    unfolding read
    read_is_from [] front s e =
        by_option (whole s) (λ o. whole s ≡ o → IsRead (front ++ []) (elim o as (λ z. Result (List Command) ℕ) [ Some tree ↦ Ok tree | None ↦ Err (line_at text (length text)) ]))
        (λ tree q p. subst (λ x. WritesSymbols depth room tree (symbols_of text x)) (sym (append-nil front)) (ended_writes tree (symbols_of text front) (e ∙ ap (λ x. Some x) (whole_ended s tree p))))
        (λ q p. inr (record {
          begins = subst (λ x. BeginsAt depth room (symbols_of text x)) (sym (append-nil front)) (runs_begin _ s e);
          stops = subst (λ x. (tree : List Command) → WritesSymbols depth room tree (symbols_of text x) → ⊥) (sym (append-nil front)) (part_stops front s e p);
          line_is = refl;
        })) refl
    read_is_from (token ∷ rest) front s e =
        by_option (step depth room s (symbol_of text token)) (λ o. step depth room s (symbol_of text token) ≡ o → IsRead (front ++ token ∷ rest) (elim o as (λ z. Result (List Command) ℕ) [ Some next ↦ read depth room text next rest | None ↦ Err token.line ]))
        (λ next q p. subst (λ x. IsRead x (read depth room text next rest)) (append_assoc front (token ∷ []) rest) (read_is_from rest (front ++ token ∷ []) next (run-more front token s next e p)))
        (λ q p. inl (record {
          front = front;
          token = token;
          rest = rest;
          split = refl;
          begins = runs_begin _ s e;
          stops = stuck_stops front token s e p;
          line_is = refl;
        })) refl

    pub read_is : (tokens : List Token) → IsRead tokens (read depth room text start tokens)
    unfolding run
    read_is tokens = read_is_from tokens [] start refl

    -- a tree that writes the tokens is the result of reading them
    pub read_ok : (tokens : List Token) (tree : List Command) → WritesSymbols depth room tree (symbols_of text tokens) → read depth room text start tokens ≡ Ok tree
    unfolding whole
    read_ok tokens tree h =
        ap (read depth room text start) (sym (append-nil tokens))
        ∙ read-run tokens [] start (ended tree) (writes_runs tree _ h)
        ∙ read-end (ended tree)

    -- the line of a fault is the result of reading the tokens
    pub read_stops : (tokens : List Token) (line : ℕ) → IsFaultAt depth room text tokens line → read depth room text start tokens ≡ Err line
    read_stops tokens line h =
        let b = begins_run _ h.begins in
        by_option (step depth room b.0 (symbol_of text h.token)) (λ o. step depth room b.0 (symbol_of text h.token) ≡ o → read depth room text start tokens ≡ Err line)
        (λ next q p. absurd (h.stops (runs_begin _ next (run-more h.front h.token b.0 next b.1 p))))
        (λ q p. ap (read depth room text start) h.split ∙ read-run h.front (h.token ∷ h.rest) start b.0 b.1 ∙ read-stuck b.0 h.token h.rest p ∙ ap (λ n. Err n) (sym h.line_is)) refl

    pub read_stops_at_end : (tokens : List Token) (line : ℕ) → IsFaultAtEnd depth room text tokens line → read depth room text start tokens ≡ Err line
    read_stops_at_end tokens line h =
        let b = begins_run _ h.begins in
        by_option (whole b.0) (λ o. whole b.0 ≡ o → read depth room text start tokens ≡ Err line)
        (λ tree q p. absurd (h.stops tree (ended_writes tree _ (b.1 ∙ ap (λ x. Some x) (whole_ended b.0 tree p)))))
        (λ q p. ap (read depth room text start) (sym (append-nil tokens)) ∙ read-run tokens [] start b.0 b.1 ∙ read-end b.0
        ∙ ap (λ o. elim o as (λ z. Result (List Command) ℕ) [ Some tree ↦ Ok tree | None ↦ Err (line_at text (length text)) ]) p ∙ ap (λ n. Err n) (sym h.line_is)) refl
