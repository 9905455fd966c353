-- Tokens as symbols of the grammar.
use Rattle.std.specs.Prelude.{ℕ, List, Option, map, drop}
use Rattle.std.specs.List.{slice_range}
use Rattle.sieve_syntax.specs.Value.{number_of, quoted_octets, multi_line_octets}
use Rattle.sieve_syntax.specs.declared.token.Token.{Token}
use Rattle.sieve_syntax.specs.declared.token.TokenKind.{TokenKind}
use Rattle.sieve_syntax.specs.declared.token.TokenKind.TheVariants as kinds

-- A token without its place. Punctuation has no line here, since no tree keeps it.
pub data Symbol : Type 0 where
  identifier : (name : List ℕ) (line : ℕ) → Symbol
  tag_symbol : (name : List ℕ) (line : ℕ) → Symbol
  number_symbol : (value : Option ℕ) (line : ℕ) → Symbol
  string_symbol : (octets : List ℕ) (line : ℕ) → Symbol
  semicolon : Symbol
  open_brace : Symbol
  close_brace : Symbol
  open_parenthesis : Symbol
  close_parenthesis : Symbol
  open_bracket : Symbol
  close_bracket : Symbol
  comma : Symbol
  bad : Symbol

-- the symbol that octets spell (RFC 5228, 2.4)
unfoldable pub symbol_at : TokenKind → List ℕ → ℕ → Symbol
symbol_at kinds.Identifier octets line = identifier octets line
symbol_at kinds.Tag octets line = tag_symbol (drop 1 octets) line
symbol_at kinds.Number octets line = number_symbol (number_of octets) line
symbol_at kinds.Quoted octets line = string_symbol (quoted_octets octets) line
symbol_at kinds.MultiLine octets line = string_symbol (multi_line_octets octets) line
symbol_at kinds.Semicolon octets line = semicolon
symbol_at kinds.OpenBrace octets line = open_brace
symbol_at kinds.CloseBrace octets line = close_brace
symbol_at kinds.OpenParenthesis octets line = open_parenthesis
symbol_at kinds.CloseParenthesis octets line = close_parenthesis
symbol_at kinds.OpenBracket octets line = open_bracket
symbol_at kinds.CloseBracket octets line = close_bracket
symbol_at kinds.Comma octets line = comma
symbol_at kinds.Bad octets line = bad

-- the symbol of a token of a text
abbrev pub symbol_of : List ℕ → Token → Symbol
symbol_of text token = symbol_at token.kind (slice_range text token.start token.end) token.line

abbrev pub symbols_of : List ℕ → List Token → List Symbol
symbols_of text tokens = map (symbol_of text) tokens
