-- The tokens of a text, by RFC 5228, sections 2 and 8.1: white space and spellings in turn.
use Rattle.std.specs.Prelude.{◌≡◌, ℕ, ◌+◌, ◌<◌, ◌≤◌, ◌==◌, ◌⊎◌, IsTrue, List, [], ◌∷◌, length, take, drop, count_by, Some, None}
use Rattle.std.specs.List.{slice_range}
use Rattle.octets.specs.Octet.{octet_of}
use Rattle.sieve_syntax.specs.Spelling.{spells}
use Rattle.sieve_syntax.specs.White.{white_at}
use Rattle.sieve_syntax.specs.declared.token.Token.{Token}
use Rattle.sieve_syntax.specs.declared.token.TokenKind.{TokenKind}
use Rattle.sieve_syntax.specs.declared.token.TokenKind.TheVariants.{Bad}

-- the number of LF among octets
abbrev pub line_feeds : List ℕ → ℕ
line_feeds octets = count_by (λ octet. octet == octet_of "\n") octets

-- the line of a place: one plus the number of LF before it
abbrev pub line_at : List ℕ → ℕ → ℕ
line_at text place = line_feeds (take place text) + 1

-- white space and comments alone are between the places, or nothing (RFC 5228, 2.2 and 2.3)
pub data White (text : List ℕ) : ℕ → ℕ → Type 0 where
  nothing : (place : ℕ) → White text place place
  white : (place n end : ℕ) → white_at (drop place text) ≡ Some n → White text (place + n) end → White text place end

-- THE TOKENS OF A TEXT

-- the token is a spelling in the text, and none from its place on is longer
pub record IsLongest (text : List ℕ) (token : Token) : Type 0 where
  pub inside : token.end ≤ length text
  pub spelled : IsTrue (spells token.kind (slice_range text token.start token.end))
  pub longest : (kind : TokenKind) (end : ℕ) → end ≤ length text → IsTrue (spells kind (slice_range text token.start end)) → end ≤ token.end

-- Neither white space nor a spelling begins at the token's place. The token is the rest
-- of the text.
pub record IsBad (text : List ℕ) (token : Token) : Type 0 where
  pub kind : token.kind ≡ Bad
  pub start : token.start < length text
  pub rest : token.end ≡ length text
  pub no_white : white_at (drop token.start text) ≡ None
  pub no_spelling : (kind : TokenKind) (end : ℕ) → end ≤ length text → IsTrue (spells kind (slice_range text token.start end)) → ⊥

-- the token lies in the text
pub record IsInside (text : List ℕ) (token : Token) : Type 0 where
  pub some : token.start < token.end
  pub inside : token.end ≤ length text

-- From a place on, the text is white space and longest spellings in turn (RFC 5228, 8.1). Where
-- neither begins, a bad token ends the list.
abbrev pub SpellsFrom : List ℕ → ℕ → List Token → Type 0
SpellsFrom text place [] = White text place (length text)
SpellsFrom text place (token ∷ tokens) =
    White text place token.start × (token.line ≡ line_at text token.start) ×
    ((IsLongest text token × SpellsFrom text token.end tokens) ⊎ (IsBad text token × (tokens ≡ [])))

-- the tokens spell the text
abbrev pub Spells : List Token → List ℕ → Type 0
Spells tokens text = SpellsFrom text 0 tokens
