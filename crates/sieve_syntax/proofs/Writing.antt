-- The symbols that the machine has read are the front of those that a tree writes.
use Rattle.std.proofs.Common.{◌≡◌, ℕ, zero, suc, ◌+◌, ◌<◌, true, false, nat_lt, if◌then◌else◌, List, [], ◌∷◌, ◌++◌, length, Some, None, refl, sym, ap, ◌∙◌, subst, arith, append_assoc, append-nil}
use Rattle.std.proofs.lemmas.Option.{same_Some}
use Rattle.std.proofs.lemmas.Bool.{ltb-true}
use Rattle.sieve_syntax.specs.Tree.{Text, Argument, strings, number, tag, Test, Tests, no_tests, one_test, test_list, tests, Command, no_block, block, command_list}
use Rattle.sieve_syntax.specs.Symbol.{Symbol, identifier, tag_symbol, number_symbol, string_symbol, semicolon, open_brace, close_brace, open_parenthesis, close_parenthesis, open_bracket, close_bracket, comma, bad}
use Rattle.sieve_syntax.specs.Grammar.{written_more, written_texts, written_argument, written_arguments, written_test, written_tests, written_test_list, written_test_rest, written_command, written_block, written_commands, IsArgument, AreArguments, NestsTest, NestsTests, NestsTestList, NestsCommand, NestsBlock, NestsCommands}
use Rattle.sieve_syntax.specs.Machine.{Head, Level, for_one, for_list, Open, Outer, ParserState, between, in_arguments, before_string, after_string, before_test, after_tests, bare_head, with_argument, test_with, command_of_parts, inside_block, after_command, after_listed, close, close_block, step}
use Rattle.sieve_syntax.proofs.Cases.{by_cases}

-- THE SYMBOLS READ SO FAR

abbrev head_symbols : Head → List Symbol
head_symbols h = identifier h.name h.line ∷ written_arguments h.args

abbrev tests_before : List Test → List Symbol
tests_before [] = []
tests_before (t ∷ ts) = written_test t ++ comma ∷ tests_before ts

abbrev level_symbols : List Level → List Symbol
level_symbols [] = []
level_symbols (for_one g ∷ ls) = level_symbols ls ++ head_symbols g
level_symbols (for_list g before ∷ ls) = level_symbols ls ++ (head_symbols g ++ open_parenthesis ∷ tests_before before)

abbrev block_symbols : List Open → List Symbol
block_symbols [] = []
block_symbols (b ∷ bs) = block_symbols bs ++ (written_commands (command_list b.done) ++ (head_symbols b.head ++ (written_tests b.tests ++ open_brace ∷ [])))

abbrev outer_symbols : Outer → List Symbol
outer_symbols o = block_symbols o.blocks ++ written_commands (command_list o.done)

abbrev texts_before : List Text → List Symbol
texts_before [] = []
texts_before (t ∷ ts) = string_symbol t.string t.line ∷ comma ∷ texts_before ts

abbrev pub state_symbols : ParserState → List Symbol
state_symbols (between o) = outer_symbols o
state_symbols (in_arguments o ls h) = outer_symbols o ++ (level_symbols ls ++ head_symbols h)
state_symbols (before_string o ls h before) = outer_symbols o ++ (level_symbols ls ++ (head_symbols h ++ open_bracket ∷ texts_before before))
state_symbols (after_string o ls h before) = outer_symbols o ++ (level_symbols ls ++ (head_symbols h ++ open_bracket ∷ written_texts before))
state_symbols (before_test o ls) = outer_symbols o ++ level_symbols ls
state_symbols (after_tests o ls h ts) = outer_symbols o ++ (level_symbols ls ++ (head_symbols h ++ written_tests ts))

-- THE STATES THAT ARE REACHED

abbrev NestsEach : List Test → ℕ → Type 0
NestsEach [] d = Unit {0}
NestsEach (t ∷ ts) d = NestsTest t d × NestsEach ts d

abbrev HasText : List Text → Type 0
HasText [] = ⊥
HasText (t ∷ ts) = Unit {0}

-- the tests that are open leave depth for so many below the innermost
abbrev IsLevels : ℕ → List Level → ℕ → Type 0
IsLevels depth [] d = d ≡ depth
IsLevels depth (for_one g ∷ ls) d = AreArguments g.args × IsLevels depth ls (suc d)
IsLevels depth (for_list g before ∷ ls) d = AreArguments g.args × NestsEach before d × IsLevels depth ls (suc d)

-- the blocks that are open leave room for so many in the innermost
abbrev IsBlocks : ℕ → ℕ → List Open → ℕ → Type 0
IsBlocks depth room [] r = r ≡ room
IsBlocks depth room (b ∷ bs) r = NestsCommands depth (command_list b.done) (suc r) × AreArguments b.head.args × NestsTests b.tests depth × IsBlocks depth room bs (suc r)

pub record IsOuter (depth room : ℕ) (o : Outer) : Type 0 where
  pub left : ℕ
  pub blocks : IsBlocks depth room o.blocks left
  pub done : NestsCommands depth (command_list o.done) left

pub record IsOpen (depth room : ℕ) (o : Outer) (ls : List Level) (h : Head) : Type 0 where
  pub outer : IsOuter depth room o
  pub left : ℕ
  pub levels : IsLevels depth ls left
  pub args : AreArguments h.args

abbrev pub IsReached : ℕ → ℕ → ParserState → Type 0
IsReached depth room (between o) = IsOuter depth room o
IsReached depth room (in_arguments o ls h) = IsOpen depth room o ls h
IsReached depth room (before_string o ls h before) = IsOpen depth room o ls h
IsReached depth room (after_string o ls h before) = IsOpen depth room o ls h × HasText before
IsReached depth room (before_test o ls) = IsOuter depth room o × ((d : ℕ) × IsLevels depth ls d)
IsReached depth room (after_tests o ls h ts) = (is : IsOpen depth room o ls h) × NestsTests ts is.left

-- ONE MORE AT THE END

commands_symbols : (ns : List Command) (n : Command) → written_commands (command_list (ns ++ n ∷ [])) ≡ written_commands (command_list ns) ++ written_command n
unfolding written_commands
commands_symbols [] n = append-nil (written_command n)
commands_symbols (m ∷ ns) n = ap (λ x. written_command m ++ x) (commands_symbols ns n) ∙ sym (append_assoc (written_command m) (written_commands (command_list ns)) (written_command n))

commands_nest : (depth r : ℕ) (ns : List Command) (n : Command) → NestsCommands depth (command_list ns) r → NestsCommand depth n r → NestsCommands depth (command_list (ns ++ n ∷ [])) r
unfolding NestsCommands
commands_nest depth r [] n h k = (k, tt)
commands_nest depth r (m ∷ ns) n h k = (h.0, commands_nest depth r ns n h.1 k)

arguments_symbols : (more : List Argument) (a : Argument) → written_arguments (more ++ a ∷ []) ≡ written_arguments more ++ written_argument a
arguments_symbols [] a = append-nil (written_argument a)
arguments_symbols (b ∷ more) a = ap (λ x. written_argument b ++ x) (arguments_symbols more a) ∙ sym (append_assoc (written_argument b) (written_arguments more) (written_argument a))

arguments_are : (more : List Argument) (a : Argument) → AreArguments more → IsArgument a → AreArguments (more ++ a ∷ [])
arguments_are [] a h k = (k, tt)
arguments_are (b ∷ more) a h k = (h.0, arguments_are more a h.1 k)

before_symbols : (ts : List Test) (t : Test) → tests_before (ts ++ t ∷ []) ≡ tests_before ts ++ (written_test t ++ comma ∷ [])
before_symbols [] t = refl
before_symbols (s ∷ ts) t = ap (λ x. written_test s ++ comma ∷ x) (before_symbols ts t) ∙ sym (append_assoc (written_test s) (comma ∷ tests_before ts) (written_test t ++ comma ∷ []))

before_nest : (ts : List Test) (t : Test) (d : ℕ) → NestsEach ts d → NestsTest t d → NestsEach (ts ++ t ∷ []) d
before_nest [] t d h k = (k, tt)
before_nest (s ∷ ts) t d h k = (h.0, before_nest ts t d h.1 k)

rest_symbols : (ts : List Test) (t : Test) → written_test_rest (tests (ts ++ t ∷ [])) ≡ comma ∷ (tests_before ts ++ (written_test t ++ close_parenthesis ∷ []))
unfolding written_test_rest
rest_symbols [] t = refl
rest_symbols (s ∷ ts) t = ap (λ x. comma ∷ (written_test s ++ x)) (rest_symbols ts t) ∙ ap (λ x. comma ∷ x) (sym (append_assoc (written_test s) (comma ∷ tests_before ts) (written_test t ++ close_parenthesis ∷ [])))

list_symbols : (ts : List Test) (t : Test) → written_test_list (tests (ts ++ t ∷ [])) ≡ tests_before ts ++ (written_test t ++ close_parenthesis ∷ [])
unfolding written_test_list written_test_rest
list_symbols [] t = refl
list_symbols (s ∷ ts) t = ap (λ x. written_test s ++ x) (rest_symbols ts t) ∙ sym (append_assoc (written_test s) (comma ∷ tests_before ts) (written_test t ++ close_parenthesis ∷ []))

each_nests : (ts : List Test) (d : ℕ) → NestsEach ts d → NestsTestList (tests ts) d
unfolding NestsTestList
each_nests [] d h = tt
each_nests (t ∷ ts) d h = (h.0, each_nests ts d h.1)

list_nests : (ts : List Test) (t : Test) (d : ℕ) → NestsEach ts d → NestsTest t d → NestsTests (test_list (tests (ts ++ t ∷ []))) (suc d)
unfolding NestsTests NestsTestList
list_nests [] t d h k = (k, tt)
list_nests (s ∷ ts) t d h k = (h.0, each_nests (ts ++ t ∷ []) d (before_nest ts t d h.1 k))

texts_symbols : (ts : List Text) (t : Text) → written_texts (ts ++ t ∷ []) ≡ texts_before ts ++ string_symbol t.string t.line ∷ []
texts_symbols [] t = refl
texts_symbols (s ∷ ts) t = ap (λ x. string_symbol s.string s.line ∷ x) (more_symbols ts t)
  where
    more_symbols : (us : List Text) (u : Text) → written_more (us ++ u ∷ []) ≡ comma ∷ (texts_before us ++ string_symbol u.string u.line ∷ [])
    more_symbols [] u = refl
    more_symbols (v ∷ us) u = ap (λ x. comma ∷ string_symbol v.string v.line ∷ x) (more_symbols us u)

texts_comma : (ts : List Text) → HasText ts → texts_before ts ≡ written_texts ts ++ comma ∷ []
texts_comma [] h = absurd h
texts_comma (s ∷ ts) h = ap (λ x. string_symbol s.string s.line ∷ x) (more_comma ts)
  where
    more_comma : (us : List Text) → comma ∷ texts_before us ≡ written_more us ++ comma ∷ []
    more_comma [] = refl
    more_comma (v ∷ us) = ap (λ x. comma ∷ string_symbol v.string v.line ∷ x) (more_comma us)

texts_some : (ts : List Text) (t : Text) → HasText (ts ++ t ∷ [])
texts_some [] t = tt
texts_some (s ∷ ts) t = tt

strings_are : (ts : List Text) → HasText ts → IsArgument (strings ts true)
strings_are [] h = absurd h
strings_are (t ∷ []) h = tt
strings_are (t ∷ s ∷ ts) h = tt

-- ONE STEP

-- the state is reached, and one more symbol is read
pub record Takes (depth room : ℕ) (front : List Symbol) (w : Symbol) (s : ParserState) : Type 0 where
  pub reached : IsReached depth room s
  pub symbols : state_symbols s ≡ front ++ w ∷ []

block_end : (a b c d e : List Symbol) → a ++ (b ++ ((c ++ d) ++ (open_brace ∷ (e ++ close_brace ∷ [])))) ≡ ((a ++ (b ++ (c ++ (d ++ open_brace ∷ [])))) ++ e) ++ close_brace ∷ []
block_end a b c d e = simp append_assoc

-- the symbols of the last argument of a command or a test are the last of all
argument_end : (a b c d : List Symbol) (w : Symbol) → a ++ (b ++ (w ∷ (c ++ d))) ≡ (a ++ (b ++ w ∷ c)) ++ d
argument_end a b c d w = simp append_assoc

one_end : (a b c : List Symbol) (w : Symbol) → a ++ (b ++ (c ++ w ∷ [])) ≡ (a ++ (b ++ c)) ++ w ∷ []
one_end a b c w = simp append_assoc

level_end : (a b c : List Symbol) (w : Symbol) → a ++ ((b ++ c) ++ w ∷ []) ≡ (a ++ (b ++ c)) ++ w ∷ []
level_end a b c w = simp append_assoc

text_end : (a b c d : List Symbol) (v w : Symbol) → a ++ (b ++ (c ++ v ∷ (d ++ w ∷ []))) ≡ (a ++ (b ++ (c ++ v ∷ d))) ++ w ∷ []
text_end a b c d v w = simp append_assoc

module _ (depth room : ℕ) where
  blocks_left : (bs : List Open) (r : ℕ) → IsBlocks depth room bs r → r + length bs ≡ room
  blocks_left [] r h = omega (arith, h)
  blocks_left (b ∷ bs) r h = omega (arith, blocks_left bs (suc r) h.3)

  levels_left : (ls : List Level) (d : ℕ) → IsLevels depth ls d → d + length ls ≡ depth
  levels_left [] d h = omega (arith, h)
  levels_left (for_one g ∷ ls) d h = omega (arith, levels_left ls (suc d) h.1)
  levels_left (for_list g before ∷ ls) d h = omega (arith, levels_left ls (suc d) h.2)

  -- where there is room for one more block, the state inside it is in order
  enter : (o : Outer) (h : Head) (ts : Tests) (r : ℕ) → IsBlocks depth room o.blocks r → NestsCommands depth (command_list o.done) r → length o.blocks < room → AreArguments h.args → NestsTests ts depth → IsOuter depth room (inside_block o h ts)
  unfolding NestsCommands
  enter o h ts zero blocks done fits args nests = absurd (omega (arith, blocks_left o.blocks 0 blocks))
  enter o h ts (suc r) blocks done fits args nests = record { left = r; blocks = (done, args, nests, blocks); done = tt }

  close_takes : (ls : List Level) (w : Symbol) (o : Outer) (h : Head) (ts : Tests) (s : ParserState) (d : ℕ) → IsOuter depth room o → IsLevels depth ls d → AreArguments h.args → NestsTests ts d → close room o ls h ts w ≡ Some s →
      Takes depth room (outer_symbols o ++ (level_symbols ls ++ (head_symbols h ++ written_tests ts))) w s
  unfolding close after_command after_listed NestsTests NestsTest NestsCommand NestsBlock written_tests written_test written_command written_block
  close_takes [] semicolon o h ts s d outer levels args nests e =
      subst (Takes depth room (outer_symbols o ++ (head_symbols h ++ written_tests ts)) semicolon) (same_Some _ s e) record {
        reached = record {
          left = outer.left;
          blocks = outer.blocks;
          done = commands_nest depth outer.left o.done (command_of_parts h ts no_block) outer.done (args, subst (NestsTests ts) levels nests, tt);
        };
        symbols = simp (commands_symbols, append_assoc);
      }
  close_takes [] open_brace o h ts s d outer levels args nests e =
      by_cases (nat_lt (length o.blocks) room)
      (λ b. (if b then Some (between (inside_block o h ts)) else None) ≡ Some s → Takes depth room (outer_symbols o ++ (head_symbols h ++ written_tests ts)) open_brace s)
      (λ q f. subst (Takes depth room (outer_symbols o ++ (head_symbols h ++ written_tests ts)) open_brace) (same_Some _ s f) record {
        reached = enter o h ts outer.left outer.blocks outer.done (ltb-true (length o.blocks) room q) args (subst (NestsTests ts) levels nests);
        symbols = simp (append_assoc, append-nil);
      })
      (λ q f. cc) e
  close_takes [] _ o h ts s d outer levels args nests e = cc
  close_takes (for_one g ∷ ls) w o h ts s d outer levels args nests e =
      subst (λ ws. Takes depth room ws w s) (simp append_assoc)
      (close_takes ls w o g (one_test (test_with h ts)) s (suc d) outer levels.1 levels.0 (args, nests) e)
  close_takes (for_list g before ∷ ls) comma o h ts s d outer levels args nests e =
      subst (Takes depth room (outer_symbols o ++ ((level_symbols ls ++ (head_symbols g ++ open_parenthesis ∷ tests_before before)) ++ (head_symbols h ++ written_tests ts))) comma) (same_Some _ s e) record {
        reached = (outer, (d, (levels.0, before_nest before (test_with h ts) d levels.1 (args, nests), levels.2)));
        symbols = simp (before_symbols, append_assoc);
      }
  close_takes (for_list g before ∷ ls) close_parenthesis o h ts s d outer levels args nests e =
      subst (Takes depth room (outer_symbols o ++ ((level_symbols ls ++ (head_symbols g ++ open_parenthesis ∷ tests_before before)) ++ (head_symbols h ++ written_tests ts))) close_parenthesis) (same_Some _ s e) record {
        reached = (record { outer = outer; left = suc d; levels = levels.2; args = levels.0 }, list_nests before (test_with h ts) d levels.1 (args, nests));
        symbols = simp (list_symbols, append_assoc);
      }
  close_takes (for_list g before ∷ ls) _ o h ts s d outer levels args nests e = cc

  close_block_takes : (bs : List Open) (done : List Command) (s : ParserState) (r : ℕ) → IsBlocks depth room bs r → NestsCommands depth (command_list done) r → close_block bs done ≡ Some s →
      Takes depth room (block_symbols bs ++ written_commands (command_list done)) close_brace s
  unfolding close_block written_command written_block NestsCommand NestsBlock
  close_block_takes [] done s r blocks nest e = cc
  close_block_takes (b ∷ bs) done s r blocks nest e =
      subst (Takes depth room (block_symbols (b ∷ bs) ++ written_commands (command_list done)) close_brace) (same_Some _ s e) record {
        reached = record {
          left = suc r;
          blocks = blocks.3;
          done = commands_nest depth (suc r) b.done (command_of_parts b.head b.tests (block (command_list done))) blocks.0 (blocks.1, blocks.2, nest);
        };
        symbols = ap (λ x. block_symbols bs ++ x) (commands_symbols b.done (command_of_parts b.head b.tests (block (command_list done))))
            ∙ block_end (block_symbols bs) (written_commands (command_list b.done)) (head_symbols b.head) (written_tests b.tests) (written_commands (command_list done));
      }

  -- a command or a test whose arguments are being read stays in order with one more argument
  argument_takes : (o : Outer) (ls : List Level) (h : Head) (a : Argument) → IsOpen depth room o ls h → IsArgument a → IsOpen depth room o ls (with_argument h a)
  argument_takes o ls h a is k = record { outer = is.outer; left = is.left; levels = is.levels; args = arguments_are h.args a is.args k }

  argument_symbols : (o : Outer) (ls : List Level) (h : Head) (a : Argument) → outer_symbols o ++ (level_symbols ls ++ head_symbols (with_argument h a)) ≡ (outer_symbols o ++ (level_symbols ls ++ head_symbols h)) ++ written_argument a
  argument_symbols o ls h a =
      ap (λ x. outer_symbols o ++ (level_symbols ls ++ (identifier h.name h.line ∷ x))) (arguments_symbols h.args a)
      ∙ argument_end (outer_symbols o) (level_symbols ls) (written_arguments h.args) (written_argument a) (identifier h.name h.line)

  -- an argument of one symbol is read
  symbol_takes : (o : Outer) (ls : List Level) (h : Head) (a : Argument) (w : Symbol) → IsOpen depth room o ls h → IsArgument a → written_argument a ≡ w ∷ [] →
      Takes depth room (outer_symbols o ++ (level_symbols ls ++ head_symbols h)) w (in_arguments o ls (with_argument h a))
  symbol_takes o ls h a w is k e = record {
    reached = argument_takes o ls h a is k;
    symbols = argument_symbols o ls h a ∙ ap (λ x. (outer_symbols o ++ (level_symbols ls ++ head_symbols h)) ++ x) e;
  }

  -- where fewer levels are open than there may be, depth is left for one more
  deeper : (ls : List Level) (d : ℕ) → IsLevels depth ls d → length ls < depth → (n : ℕ) × (d ≡ suc n)
  deeper ls zero is fits = absurd (omega (arith, levels_left ls 0 is))
  deeper ls (suc n) is fits = (n, refl)

  one_takes : (o : Outer) (ls : List Level) (h : Head) (name : List ℕ) (line : ℕ) → IsOpen depth room o ls h → length ls < depth →
      Takes depth room (outer_symbols o ++ (level_symbols ls ++ head_symbols h)) (identifier name line) (in_arguments o (for_one h ∷ ls) (bare_head name line))
  one_takes o ls h name line is fits =
      let below = deeper ls is.left is.levels fits in
      record {
        reached = record { outer = is.outer; left = below.0; levels = (is.args, subst (IsLevels depth ls) below.1 is.levels); args = tt };
        symbols = level_end (outer_symbols o) (level_symbols ls) (head_symbols h) (identifier name line);
      }

  list_takes : (o : Outer) (ls : List Level) (h : Head) → IsOpen depth room o ls h → length ls < depth →
      Takes depth room (outer_symbols o ++ (level_symbols ls ++ head_symbols h)) open_parenthesis (before_test o (for_list h [] ∷ ls))
  list_takes o ls h is fits =
      let below = deeper ls is.left is.levels fits in
      record {
        reached = (is.outer, (below.0, (is.args, tt, subst (IsLevels depth ls) below.1 is.levels)));
        symbols = one_end (outer_symbols o) (level_symbols ls) (head_symbols h) open_parenthesis;
      }

  no_tests_takes : (o : Outer) (ls : List Level) (h : Head) (w : Symbol) (t : ParserState) → IsOpen depth room o ls h → close room o ls h no_tests w ≡ Some t →
      Takes depth room (outer_symbols o ++ (level_symbols ls ++ head_symbols h)) w t
  unfolding written_tests NestsTests
  no_tests_takes o ls h w t is e =
      subst (λ x. Takes depth room (outer_symbols o ++ (level_symbols ls ++ x)) w t) (append-nil (head_symbols h))
      (close_takes ls w o h no_tests t is.left is.outer is.levels is.args tt e)

  pub step_takes : (s : ParserState) (w : Symbol) (t : ParserState) → IsReached depth room s → step depth room s w ≡ Some t → Takes depth room (state_symbols s) w t
  unfolding step
  step_takes (between o) (identifier name line) t is e =
      subst (Takes depth room (outer_symbols o) (identifier name line)) (same_Some _ t e) record {
        reached = record { outer = is; left = depth; levels = refl; args = tt };
        symbols = refl;
      }
  step_takes (between o) close_brace t is e = close_block_takes o.blocks o.done t is.left is.blocks is.done e
  step_takes (between o) _ t is e = cc
  step_takes (in_arguments o ls h) (string_symbol octets line) t is e =
      let text : Text = record { string = octets; line = line } in
      subst (Takes depth room (outer_symbols o ++ (level_symbols ls ++ head_symbols h)) (string_symbol octets line)) (same_Some _ t e)
      (symbol_takes o ls h (strings (text ∷ []) false) (string_symbol octets line) is tt refl)
  step_takes (in_arguments o ls h) (number_symbol value line) t is e =
      subst (Takes depth room (outer_symbols o ++ (level_symbols ls ++ head_symbols h)) (number_symbol value line)) (same_Some _ t e)
      (symbol_takes o ls h (number value line) (number_symbol value line) is tt refl)
  step_takes (in_arguments o ls h) (tag_symbol name line) t is e =
      subst (Takes depth room (outer_symbols o ++ (level_symbols ls ++ head_symbols h)) (tag_symbol name line)) (same_Some _ t e)
      (symbol_takes o ls h (tag name line) (tag_symbol name line) is tt refl)
  step_takes (in_arguments o ls h) open_bracket t is e =
      subst (Takes depth room (outer_symbols o ++ (level_symbols ls ++ head_symbols h)) open_bracket) (same_Some _ t e) record {
        reached = is;
        symbols = one_end (outer_symbols o) (level_symbols ls) (head_symbols h) open_bracket;
      }
  step_takes (in_arguments o ls h) (identifier name line) t is e =
      by_cases (nat_lt (length ls) depth)
      (λ b. (if b then Some (in_arguments o (for_one h ∷ ls) (bare_head name line)) else None) ≡ Some t → Takes depth room (outer_symbols o ++ (level_symbols ls ++ head_symbols h)) (identifier name line) t)
      (λ q f. subst (Takes depth room (outer_symbols o ++ (level_symbols ls ++ head_symbols h)) (identifier name line)) (same_Some _ t f) (one_takes o ls h name line is (ltb-true (length ls) depth q)))
      (λ q f. cc) e
  step_takes (in_arguments o ls h) open_parenthesis t is e =
      by_cases (nat_lt (length ls) depth)
      (λ b. (if b then Some (before_test o (for_list h [] ∷ ls)) else None) ≡ Some t → Takes depth room (outer_symbols o ++ (level_symbols ls ++ head_symbols h)) open_parenthesis t)
      (λ q f. subst (Takes depth room (outer_symbols o ++ (level_symbols ls ++ head_symbols h)) open_parenthesis) (same_Some _ t f) (list_takes o ls h is (ltb-true (length ls) depth q)))
      (λ q f. cc) e
  step_takes (in_arguments o ls h) semicolon t is e = no_tests_takes o ls h semicolon t is e
  step_takes (in_arguments o ls h) open_brace t is e = no_tests_takes o ls h open_brace t is e
  step_takes (in_arguments o ls h) close_brace t is e = no_tests_takes o ls h close_brace t is e
  step_takes (in_arguments o ls h) close_parenthesis t is e = no_tests_takes o ls h close_parenthesis t is e
  step_takes (in_arguments o ls h) close_bracket t is e = no_tests_takes o ls h close_bracket t is e
  step_takes (in_arguments o ls h) comma t is e = no_tests_takes o ls h comma t is e
  step_takes (in_arguments o ls h) bad t is e = no_tests_takes o ls h bad t is e
  step_takes (before_string o ls h before) (string_symbol octets line) t is e =
      let text : Text = record { string = octets; line = line } in
      subst (Takes depth room (outer_symbols o ++ (level_symbols ls ++ (head_symbols h ++ open_bracket ∷ texts_before before))) (string_symbol octets line)) (same_Some _ t e) record {
        reached = (is, texts_some before text);
        symbols = ap (λ x. outer_symbols o ++ (level_symbols ls ++ (head_symbols h ++ open_bracket ∷ x))) (texts_symbols before text)
            ∙ text_end (outer_symbols o) (level_symbols ls) (head_symbols h) (texts_before before) open_bracket (string_symbol octets line);
      }
  step_takes (before_string o ls h before) _ t is e = cc
  step_takes (after_string o ls h before) comma t is e =
      subst (Takes depth room (outer_symbols o ++ (level_symbols ls ++ (head_symbols h ++ open_bracket ∷ written_texts before))) comma) (same_Some _ t e) record {
        reached = is.0;
        symbols = ap (λ x. outer_symbols o ++ (level_symbols ls ++ (head_symbols h ++ open_bracket ∷ x))) (texts_comma before is.1)
            ∙ text_end (outer_symbols o) (level_symbols ls) (head_symbols h) (written_texts before) open_bracket comma;
      }
  step_takes (after_string o ls h before) close_bracket t is e =
      subst (Takes depth room (outer_symbols o ++ (level_symbols ls ++ (head_symbols h ++ open_bracket ∷ written_texts before))) close_bracket) (same_Some _ t e) record {
        reached = argument_takes o ls h (strings before true) is.0 (strings_are before is.1);
        symbols = ap (λ x. outer_symbols o ++ (level_symbols ls ++ (identifier h.name h.line ∷ x))) (arguments_symbols h.args (strings before true))
            ∙ text_end (outer_symbols o) (level_symbols ls) (head_symbols h) (written_texts before) open_bracket close_bracket;
      }
  step_takes (after_string o ls h before) _ t is e = cc
  step_takes (before_test o ls) (identifier name line) t is e =
      subst (Takes depth room (outer_symbols o ++ level_symbols ls) (identifier name line)) (same_Some _ t e) record {
        reached = record { outer = is.0; left = is.1.0; levels = is.1.1; args = tt };
        symbols = sym (append_assoc (outer_symbols o) (level_symbols ls) (identifier name line ∷ []));
      }
  step_takes (before_test o ls) _ t is e = cc
  step_takes (after_tests o ls h ts) w t is e = close_takes ls w o h ts t is.0.left is.0.outer is.0.levels is.0.args is.1 e
