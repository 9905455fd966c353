-- The models of the program's reader: the states of the machine.
use Rattle.std.specs.Prelude.{◌≡◌, List, Option, Some, None, Result, Ok, Err, map, reverse}
use Rattle.sieve_syntax.specs.view.Tree.{command_as, test_of, tests_of, text_of, argument_of}
use Rattle.sieve_syntax.specs.Symbol.{Symbol, identifier, tag_symbol, number_symbol, string_symbol, semicolon, open_brace, close_brace, open_parenthesis, close_parenthesis, open_bracket, close_bracket, comma, bad}
use Rattle.sieve_syntax.specs.Machine.{Head, Level, for_one, for_list, Open, Outer, ParserState, between, in_arguments, before_string, after_string, before_test, after_tests}
use Rattle.sieve_syntax.specs.declared.symbol.Symbol as symbols
use Rattle.sieve_syntax.specs.declared.symbol.Symbol.TheVariants as symbol_variants
use Rattle.sieve_syntax.specs.declared.reader.Head as heads
use Rattle.sieve_syntax.specs.declared.reader.Level as levels
use Rattle.sieve_syntax.specs.declared.reader.Level.TheVariants as level_variants
use Rattle.sieve_syntax.specs.declared.reader.Open as opens
use Rattle.sieve_syntax.specs.declared.reader.Outer as outers
use Rattle.sieve_syntax.specs.declared.reader.ParserState as states
use Rattle.sieve_syntax.specs.declared.reader.ParserState.TheVariants as state_variants
use Rattle.sieve_syntax.specs.declared.step.Stop as stops
use Rattle.sieve_syntax.specs.declared.step.Stop.TheVariants as stop_variants

abbrev pub symbol_as : symbols.Symbol → Symbol
symbol_as (symbol_variants.Identifier name line) = identifier name.items line
symbol_as (symbol_variants.Tag name line) = tag_symbol name.items line
symbol_as (symbol_variants.Number value line) = number_symbol value line
symbol_as (symbol_variants.String octets line) = string_symbol octets.items line
symbol_as symbol_variants.Semicolon = semicolon
symbol_as symbol_variants.OpenBrace = open_brace
symbol_as symbol_variants.CloseBrace = close_brace
symbol_as symbol_variants.OpenParenthesis = open_parenthesis
symbol_as symbol_variants.CloseParenthesis = close_parenthesis
symbol_as symbol_variants.OpenBracket = open_bracket
symbol_as symbol_variants.CloseBracket = close_bracket
symbol_as symbol_variants.Comma = comma
symbol_as symbol_variants.Bad = bad

abbrev pub head_value : heads.Head → Head
head_value h = record { name = h.name.items; line = h.line; args = map argument_of h.args.items }

abbrev pub level_value : levels.Level → Level
level_value (level_variants.One h) = for_one (head_value h)
level_value (level_variants.List h before) = for_list (head_value h) (map test_of before.items)

abbrev pub open_value : opens.Open → Open
open_value b = record { done = map command_as b.done.items; head = head_value b.head; tests = tests_of b.tests }

-- the levels, the innermost first
abbrev pub levels_value : List levels.Level → List Level
levels_value ls = map level_value (reverse ls)

abbrev pub opens_value : List opens.Open → List Open
opens_value bs = map open_value (reverse bs)

abbrev pub outer_value : outers.Outer → Outer
outer_value o = record { blocks = opens_value o.blocks.items; done = map command_as o.done.items }

abbrev pub state_value : outers.Outer → states.ParserState → ParserState
state_value o state_variants.Between = between (outer_value o)
state_value o (state_variants.Arguments h) = in_arguments (outer_value o) (levels_value o.levels.items) (head_value h)
state_value o (state_variants.BeforeString h items) = before_string (outer_value o) (levels_value o.levels.items) (head_value h) (map text_of items.items)
state_value o (state_variants.AfterString h items) = after_string (outer_value o) (levels_value o.levels.items) (head_value h) (map text_of items.items)
state_value o state_variants.BeforeTest = before_test (outer_value o) (levels_value o.levels.items)
state_value o (state_variants.AfterTests h ts) = after_tests (outer_value o) (levels_value o.levels.items) (head_value h) (tests_of ts)

-- The result of a step is the machine's next state, or a fault if there is none.
-- `NoMemory` claims nothing.
abbrev pub Advances : outers.Outer → Result states.ParserState stops.Stop → Option ParserState → Type 0
Advances o (Ok s) next = next ≡ Some (state_value o s)
Advances o (Err stop_variants.Fault) next = next ≡ None
Advances o (Err stop_variants.NoMemory) next = Unit {0}
