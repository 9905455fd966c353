-- The elements of a script are in the order of its text. They are its identifiers, strings and
-- numbers, one by one.
use Rattle.std.specs.Prelude.{◌≡◌, ℕ, Bool, true, false, List, [], ◌∷◌, map, filter, All}
use Rattle.std.specs.List.{flat_map}
use Rattle.std.specs.List.Sorted.{IsNonDecreasing}
use Rattle.sieve_profile.specs.Profile.{Profile}
use Rattle.sieve_syntax.specs.Token.{IsInside}
use Rattle.sieve_syntax.specs.Tree.{Command}
use Rattle.sieve_syntax.specs.Symbol.{Symbol, identifier, tag_symbol, number_symbol, string_symbol, semicolon, open_brace, close_brace, open_parenthesis, close_parenthesis, open_bracket, close_bracket, comma, bad, symbol_of}
use Rattle.sieve_syntax.specs.declared.token.Token.{Token}
use Rattle.sieve_check.specs.Breach.{line_of}
use Rattle.sieve_check.specs.Element.{Element, the_command, the_test, the_text, the_number, elements_of}

-- the word by which an element is written: its identifier, string or number (RFC 5228,
-- sections 2.4 and 8.2)
abbrev pub written_by : Element → Symbol
written_by (the_command context name line args ts ending) = identifier name line
written_by (the_test context name line args ts) = identifier name line
written_by (the_text context role text) = string_symbol text.string text.line
written_by (the_number value line) = number_symbol value line

-- identifiers, strings and numbers
abbrev pub writes_element : Symbol → Bool
writes_element (identifier name line) = true
writes_element (tag_symbol name line) = false
writes_element (number_symbol value line) = true
writes_element (string_symbol octets line) = true
writes_element semicolon = false
writes_element open_brace = false
writes_element close_brace = false
writes_element open_parenthesis = false
writes_element close_parenthesis = false
writes_element open_bracket = false
writes_element close_bracket = false
writes_element comma = false
writes_element bad = false

-- each token ends where the next begins, or before
abbrev pub StandApart : List Token → Type 0
StandApart tokens = IsNonDecreasing (flat_map (λ token. token.start ∷ token.end ∷ []) tokens)

-- A tree that writes these tokens of a text has as elements the identifiers, strings and numbers
-- among them. They come one by one and in order. The tokens aren't empty, and stand apart and in
-- order in the text. The lines of the elements never fall. So no identifier, string or number of
-- a text is left out, or judged out of its place. `elements_of` says which data an element
-- carries beside its word.
pub record IsInTextOrder (profile : Profile) (tree : List Command) (text : List ℕ) (tokens : List Token) : Type 0 where
  pub elements : map written_by (elements_of profile tree) ≡ map (symbol_of text) (filter (λ token. writes_element (symbol_of text token)) tokens)
  pub inside : All (IsInside text) tokens
  pub apart : StandApart tokens
  pub lines : IsNonDecreasing (map line_of (elements_of profile tree))
