-- The spelling of tokens: whether a list of octets spells a token of a kind. See RFC 5228,
-- sections 2.2 to 2.4 and 8.1.
use Rattle.std.specs.Prelude.{ℕ, Bool, true, false, ◌==◌, ◌||◌, ◌&&◌, if◌then◌else◌, List, [], ◌∷◌}
use Rattle.std.specs.List.{list_all}
use Rattle.octets.specs.Octet.{octet_of, is_digit, is_blank, begins_name, is_name_octet}
use Rattle.sieve_syntax.specs.Line.{lines_of, is_line_end, is_dot_line}
use Rattle.sieve_syntax.specs.Octet.{is_unit}
use Rattle.sieve_syntax.specs.declared.token.TokenKind.{TokenKind}
use Rattle.sieve_syntax.specs.declared.token.TokenKind.TheVariants as kinds

abbrev pub is_none : {A : Type 0} → List A → Bool
is_none [] = true
is_none (x ∷ xs) = false

-- identifier: a letter or `_`, then letters, digits and `_` (RFC 5228, 8.1)
unfoldable pub is_identifier : List ℕ → Bool
is_identifier [] = false
is_identifier (c ∷ cs) = begins_name c && list_all is_name_octet cs

-- tag: a colon and an identifier (RFC 5228, 8.1)
unfoldable pub is_tag : List ℕ → Bool
is_tag [] = false
is_tag (c ∷ cs) = c == octet_of ":" && is_identifier cs

-- digits, and then a unit or nothing
unfoldable pub ends_number : List ℕ → Bool
ends_number [] = true
ends_number (c ∷ cs) = if is_digit c then ends_number cs else (is_unit c && is_none cs)

-- number: a digit, digits, and then a unit or nothing (RFC 5228, 8.1)
unfoldable pub is_number : List ℕ → Bool
is_number [] = false
is_number (c ∷ cs) = is_digit c && ends_number cs

unfoldable mutual
  -- the rest of a quoted string: up to a quotation mark that no backslash protects
  pub ends_quoted : List ℕ → Bool
  ends_quoted [] = false
  ends_quoted (c ∷ cs) = if c == octet_of "\\" then ends_protected cs else (if c == octet_of "\"" then is_none cs else ends_quoted cs)

  -- the rest of a quoted string after a backslash
  pub ends_protected : List ℕ → Bool
  ends_protected [] = false
  ends_protected (c ∷ cs) = ends_quoted cs

-- quoted string (RFC 5228, 2.4.2 and 8.1)
unfoldable pub is_quoted : List ℕ → Bool
is_quoted [] = false
is_quoted (c ∷ cs) = c == octet_of "\"" && ends_quoted cs

-- spaces and tabs, and then a line end or a hash comment
unfoldable pub ends_opening : List ℕ → Bool
ends_opening [] = false
ends_opening (c ∷ cs) = if is_blank c then ends_opening cs else ((c == octet_of "#") || is_line_end (c ∷ cs))

-- `text` in any case
abbrev pub spells_text : ℕ → ℕ → ℕ → ℕ → Bool
spells_text t e x u = (t == octet_of "t" || (t == octet_of "T")) && ((e == octet_of "e" || (e == octet_of "E")) && ((x == octet_of "x" || (x == octet_of "X")) && (u == octet_of "t" || (u == octet_of "T"))))

-- the first line of a multi-line string: `text:`, and the rest of the line
unfoldable pub is_opening : List ℕ → Bool
is_opening (t ∷ e ∷ x ∷ u ∷ c ∷ cs) = spells_text t e x u && ((c == octet_of ":") && ends_opening cs)
is_opening _ = false

-- lines up to the first that is a dot alone
unfoldable pub end_at_dot : List (List ℕ) → Bool
end_at_dot [] = false
end_at_dot (line ∷ lines) = if is_dot_line line then is_none lines else end_at_dot lines

unfoldable pub are_multi_line : List (List ℕ) → Bool
are_multi_line [] = false
are_multi_line (line ∷ lines) = is_opening line && end_at_dot lines

-- multi-line string (RFC 5228, 2.4.2 and 8.1)
unfoldable pub is_multi_line : List ℕ → Bool
is_multi_line symbol = are_multi_line (lines_of symbol)

-- a symbol is one octet alone
unfoldable pub is_one : ℕ → List ℕ → Bool
is_one octet [] = false
is_one octet (c ∷ []) = c == octet
is_one octet (c ∷ d ∷ ds) = false

unfoldable pub spells : TokenKind → List ℕ → Bool
spells kinds.Identifier symbol = is_identifier symbol
spells kinds.Tag symbol = is_tag symbol
spells kinds.Number symbol = is_number symbol
spells kinds.Quoted symbol = is_quoted symbol
spells kinds.MultiLine symbol = is_multi_line symbol
spells kinds.Semicolon symbol = is_one (octet_of ";") symbol
spells kinds.OpenBrace symbol = is_one (octet_of "{") symbol
spells kinds.CloseBrace symbol = is_one (octet_of "}") symbol
spells kinds.OpenParenthesis symbol = is_one (octet_of "(") symbol
spells kinds.CloseParenthesis symbol = is_one (octet_of ")") symbol
spells kinds.OpenBracket symbol = is_one (octet_of "[") symbol
spells kinds.CloseBracket symbol = is_one (octet_of "]") symbol
spells kinds.Comma symbol = is_one (octet_of ",") symbol
spells kinds.Bad symbol = false
