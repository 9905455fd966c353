-- The one list of tokens of a text, as a function.
use Rattle.std.specs.Prelude.{ℕ, ◌+◌, ◌==◌, ◌&&◌, nat_lt, if◌then◌else◌, List, [], ◌∷◌, length, drop, Option, Some, None, option_map}
use Rattle.std.proofs.Common.{zero, suc}
use Rattle.octets.specs.Octet.{octet_of, is_digit, is_blank, begins_name, is_name_octet}
use Rattle.sieve_syntax.specs.Line.{line_length, lines_of, is_dot_line}
use Rattle.sieve_syntax.specs.Octet.{is_unit}
use Rattle.sieve_syntax.specs.Spelling.{is_opening, spells_text}
use Rattle.sieve_syntax.specs.Token.{line_at}
use Rattle.sieve_syntax.specs.White.{begins_with, white_at}
use Rattle.sieve_syntax.specs.declared.token.Token.{Token}
use Rattle.sieve_syntax.specs.declared.token.TokenKind.{TokenKind}
use Rattle.sieve_syntax.specs.declared.token.TokenKind.TheVariants as kinds

-- how many octets of a name begin a text
unfoldable pub name_length : List ℕ → ℕ
name_length [] = 0
name_length (c ∷ cs) = if is_name_octet c then suc (name_length cs) else 0

-- how many octets of a number begin a text, after its first digit
unfoldable pub number_length : List ℕ → ℕ
number_length [] = 0
number_length (c ∷ cs) = if is_digit c then suc (number_length cs) else (if is_unit c then 1 else 0)

unfoldable mutual
  -- how many octets a quoted string has, after its first quotation mark
  pub quoted_length : List ℕ → Option ℕ
  quoted_length [] = None
  quoted_length (c ∷ cs) = if c == octet_of "\\" then option_map suc (protected_length cs) else (if c == octet_of "\"" then Some 1 else option_map suc (quoted_length cs))

  pub protected_length : List ℕ → Option ℕ
  protected_length [] = None
  protected_length (c ∷ cs) = option_map suc (quoted_length cs)

-- a length with so many octets in front
abbrev pub shifted : ℕ → Option ℕ → Option ℕ
shifted i None = None
shifted i (Some n) = Some (i + n)

-- how many octets lines have up to the end of the first that is a dot alone
unfoldable pub dot_length : List (List ℕ) → Option ℕ
dot_length [] = None
dot_length (line ∷ lines) = if is_dot_line line then Some (length line) else option_map (λ n. length line + n) (dot_length lines)

-- The number of octets that end the first line of a multi-line string. They are a line end, or a
-- hash comment with its line.
unfoldable pub opening_stop : List ℕ → Option ℕ
opening_stop [] = None
opening_stop (c ∷ cs) =
    if c == octet_of "\n" then Some 1
    else (if (c == octet_of "\r") && begins_with (octet_of "\n") cs then Some 2
    else (if c == octet_of "#" then Some (line_length (c ∷ cs))
    else None))

-- how many octets end the first line of a multi-line string, with the blanks before them
unfoldable pub opening_end : List ℕ → Option ℕ
opening_end [] = None
opening_end (c ∷ cs) = if is_blank c then option_map suc (opening_end cs) else opening_stop (c ∷ cs)

-- the number of octets of the first line of a multi-line string, where that begins a text
unfoldable pub opening_length : List ℕ → Option ℕ
opening_length (t ∷ e ∷ x ∷ u ∷ c ∷ cs) = if spells_text t e x u && (c == octet_of ":") then option_map (λ n. 5 + n) (opening_end cs) else None
opening_length _ = None

-- the number of octets of the multi-line string that begins lines
unfoldable pub multi_line_length : List (List ℕ) → Option ℕ
multi_line_length [] = None
multi_line_length (line ∷ lines) = if is_opening line then option_map (λ n. length line + n) (dot_length lines) else None

-- an identifier or a multi-line string
unfoldable pub name_at : List ℕ → Option (TokenKind × ℕ)
name_at [] = None
name_at (c ∷ cs) = elim (multi_line_length (lines_of (c ∷ cs))) [ Some n ↦ Some (kinds.MultiLine, n) | None ↦ Some (kinds.Identifier, suc (name_length cs)) ]

-- a tag, after its colon
unfoldable pub tag_at : List ℕ → Option (TokenKind × ℕ)
tag_at [] = None
tag_at (c ∷ cs) = if begins_name c then Some (kinds.Tag, suc (suc (name_length cs))) else None

abbrev pub quoted_token : ℕ → TokenKind × ℕ
quoted_token n = (kinds.Quoted, suc n)

abbrev pub one : TokenKind → Option (TokenKind × ℕ)
one kind = Some (kind, 1)

-- punctuation, which is one octet
unfoldable pub mark_at : ℕ → Option (TokenKind × ℕ)
mark_at c =
    if c == octet_of ";" then one kinds.Semicolon
    else (if c == octet_of "," then one kinds.Comma
    else (if c == octet_of "{" then one kinds.OpenBrace
    else (if c == octet_of "}" then one kinds.CloseBrace
    else (if c == octet_of "(" then one kinds.OpenParenthesis
    else (if c == octet_of ")" then one kinds.CloseParenthesis
    else (if c == octet_of "[" then one kinds.OpenBracket
    else (if c == octet_of "]" then one kinds.CloseBracket
    else None)))))))

-- the longest spelling that begins a text, and its length
unfoldable pub longest_at : List ℕ → Option (TokenKind × ℕ)
longest_at [] = None
longest_at (c ∷ cs) =
    if begins_name c then name_at (c ∷ cs)
    else (if is_digit c then Some (kinds.Number, suc (number_length cs))
    else (if c == octet_of ":" then tag_at cs
    else (if c == octet_of "\"" then option_map quoted_token (quoted_length cs)
    else mark_at c)))

unfoldable pub token_at : List ℕ → ℕ → TokenKind → ℕ → Token
token_at text place kind end = record { kind = kind; start = place; end = end; line = line_at text place }

-- the tokens from a place on, where the rest has at most as many octets as the first number
unfoldable pub tokens_from : ℕ → List ℕ → ℕ → List Token
tokens_from zero text place = []
tokens_from (suc fuel) text place =
    elim (white_at (drop place text)) [
      | Some n ↦ tokens_from fuel text (place + n)
      | None ↦ elim (longest_at (drop place text)) [
        | Some found ↦ token_at text place found.0 (place + found.1) ∷ tokens_from fuel text (place + found.1)
        | None ↦ if nat_lt place (length text) then token_at text place kinds.Bad (length text) ∷ [] else []
      ]
    ]

unfoldable pub tokens_of : List ℕ → List Token
tokens_of text = tokens_from (length text) text 0
