-- A reader of symbols, one after another: its states, and the next state after each symbol.
use Rattle.std.specs.Prelude.{ℕ, nat_lt, if◌then◌else◌, true, false, List, [], ◌∷◌, ◌++◌, length, Option, Some, None, Result, Ok, Err}
use Rattle.sieve_syntax.specs.Tree.{Text, Argument, strings, number, tag, Test, test, Tests, no_tests, one_test, test_list, tests, Command, command, Block, no_block, block, command_list}
use Rattle.sieve_syntax.specs.Token.{line_at}
use Rattle.sieve_syntax.specs.Symbol.{Symbol, identifier, tag_symbol, number_symbol, string_symbol, semicolon, open_brace, close_brace, open_parenthesis, close_parenthesis, open_bracket, close_bracket, comma, symbol_of}
use Rattle.sieve_syntax.specs.declared.token.Token.{Token}

-- a command or a test whose arguments are being read
pub record Head : Type 0 where
  pub name : List ℕ
  pub line : ℕ
  pub args : List Argument

-- A command or a test that waits for a test inside it. It waits for its one test, or for the next
-- of its list after those before.
pub data Level : Type 0 where
  for_one : Head → Level
  for_list : Head → List Test → Level

-- a command whose block stands open, and the commands before it
pub record Open : Type 0 where
  pub done : List Command
  pub head : Head
  pub tests : Tests

-- the open blocks, the innermost first, and the commands read in the innermost
pub record Outer : Type 0 where
  pub blocks : List Open
  pub done : List Command

-- the place of the next token
pub data ParserState : Type 0 where
  -- between two commands
  between : Outer → ParserState
  -- after an identifier or an argument
  in_arguments : Outer → List Level → Head → ParserState
  -- in a list of strings, where a string has to come
  before_string : Outer → List Level → Head → List Text → ParserState
  -- in a list of strings, after a string
  after_string : Outer → List Level → Head → List Text → ParserState
  -- in a list of tests, where a test has to come
  before_test : Outer → List Level → ParserState
  -- after a list of tests
  after_tests : Outer → List Level → Head → Tests → ParserState

abbrev pub bare_head : List ℕ → ℕ → Head
bare_head name line = record { name = name; line = line; args = [] }

abbrev pub with_argument : Head → Argument → Head
with_argument h a = record { name = h.name; line = h.line; args = h.args ++ a ∷ [] }

abbrev pub test_with : Head → Tests → Test
test_with h ts = test h.name h.line h.args ts

abbrev pub command_of_parts : Head → Tests → Block → Command
command_of_parts h ts b = command h.name h.line h.args ts b

abbrev pub past_command : Outer → Command → Outer
past_command o n = record { blocks = o.blocks; done = o.done ++ n ∷ [] }

abbrev pub inside_block : Outer → Head → Tests → Outer
inside_block o h ts = record { blocks = record { done = o.done; head = h; tests = ts } ∷ o.blocks; done = [] }

-- the state after a symbol that comes after a command with all its arguments and tests
unfoldable pub after_command : ℕ → Outer → Head → Tests → Symbol → Option ParserState
after_command room o h ts semicolon = Some (between (past_command o (command_of_parts h ts no_block)))
after_command room o h ts open_brace = if nat_lt (length o.blocks) room then Some (between (inside_block o h ts)) else None
after_command room o h ts _ = None

-- the state after a symbol that comes after a test in a list of tests
unfoldable pub after_listed : Outer → List Level → Head → List Test → Symbol → Option ParserState
after_listed o ls h listed comma = Some (before_test o (for_list h listed ∷ ls))
after_listed o ls h listed close_parenthesis = Some (after_tests o ls h (test_list (tests listed)))
after_listed o ls h listed _ = None

-- The state after a symbol that comes after a command or a test with all its arguments and tests. A
-- test outside a list ends together with the command or the test around it.
unfoldable pub close : ℕ → Outer → List Level → Head → Tests → Symbol → Option ParserState
close room o [] h ts w = after_command room o h ts w
close room o (for_one g ∷ ls) h ts w = close room o ls g (one_test (test_with h ts)) w
close room o (for_list g before ∷ ls) h ts w = after_listed o ls g (before ++ test_with h ts ∷ []) w

-- the state after the end of the innermost block
unfoldable pub close_block : List Open → List Command → Option ParserState
close_block [] done = None
close_block (b ∷ bs) done = Some (between (record { blocks = bs; done = b.done ++ command_of_parts b.head b.tests (block (command_list done)) ∷ [] }))

unfoldable pub step : ℕ → ℕ → ParserState → Symbol → Option ParserState
step depth room (between o) (identifier name line) = Some (in_arguments o [] (bare_head name line))
step depth room (between o) close_brace = close_block o.blocks o.done
step depth room (between o) _ = None
step depth room (in_arguments o ls h) (string_symbol octets line) = Some (in_arguments o ls (with_argument h (strings (record { string = octets; line = line } ∷ []) false)))
step depth room (in_arguments o ls h) (number_symbol value line) = Some (in_arguments o ls (with_argument h (number value line)))
step depth room (in_arguments o ls h) (tag_symbol name line) = Some (in_arguments o ls (with_argument h (tag name line)))
step depth room (in_arguments o ls h) open_bracket = Some (before_string o ls h [])
step depth room (in_arguments o ls h) (identifier name line) = if nat_lt (length ls) depth then Some (in_arguments o (for_one h ∷ ls) (bare_head name line)) else None
step depth room (in_arguments o ls h) open_parenthesis = if nat_lt (length ls) depth then Some (before_test o (for_list h [] ∷ ls)) else None
step depth room (in_arguments o ls h) w = close room o ls h no_tests w
step depth room (before_string o ls h items) (string_symbol octets line) = Some (after_string o ls h (items ++ record { string = octets; line = line } ∷ []))
step depth room (before_string o ls h items) _ = None
step depth room (after_string o ls h items) comma = Some (before_string o ls h items)
step depth room (after_string o ls h items) close_bracket = Some (in_arguments o ls (with_argument h (strings items true)))
step depth room (after_string o ls h items) _ = None
step depth room (before_test o ls) (identifier name line) = Some (in_arguments o ls (bare_head name line))
step depth room (before_test o ls) _ = None
step depth room (after_tests o ls h ts) w = close room o ls h ts w

abbrev pub start : ParserState
start = between (record { blocks = []; done = [] })

-- the commands, if no block is open
abbrev pub whole_outer : List Open → List Command → Option (List Command)
whole_outer [] done = Some done
whole_outer (b ∷ bs) done = None

unfoldable pub whole : ParserState → Option (List Command)
whole (between o) = whole_outer o.blocks o.done
whole _ = None

-- The tree, or the line of a fault. That is the line of the first token that the state doesn't
-- take, or of the end.
unfoldable pub read : ℕ → ℕ → List ℕ → ParserState → List Token → Result (List Command) ℕ
read depth room text s [] = elim (whole s) [ Some tree ↦ Ok tree | None ↦ Err (line_at text (length text)) ]
read depth room text s (token ∷ tokens) = elim (step depth room s (symbol_of text token)) [ Some next ↦ read depth room text next tokens | None ↦ Err token.line ]
