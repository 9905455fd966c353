-- Places in a text.
use Rattle.std.specs.Prelude.{◌≡◌, ℕ, ◌<◌, ◌≤◌, List, ◌∷◌, length, take}
use Rattle.sieve_syntax.specs.Token.{line_at, line_feeds, IsInside, SpellsFrom}
use Rattle.sieve_syntax.specs.declared.cursor.Cursor.{Cursor}
use Rattle.sieve_syntax.specs.declared.token.Token.{Token}

-- the place lies in the text, and the cursor has counted the LF before it
pub record IsCursor (text : List ℕ) (cursor : Cursor) : Type 0 where
  pub within : cursor.place ≤ length text
  pub lines : cursor.line_feeds ≡ line_feeds (take cursor.place text)

-- the tokens from the one place on are those from the other on
pub record GoesTo (text : List ℕ) (from to : ℕ) : Type 0 where
  pub goes : (more : List Token) → SpellsFrom text to more → SpellsFrom text from more

-- the token comes next from the place, and the tokens after the cursor come after it
pub record IsNext (text : List ℕ) (from : ℕ) (token : Token) (after : Cursor) : Type 0 where
  pub is : IsCursor text after
  pub inside : IsInside text token
  pub line : token.line ≡ line_at text token.start
  pub place : after.place ≡ token.end
  pub forward : from < after.place
  pub goes : (more : List Token) → SpellsFrom text after.place more → SpellsFrom text from (token ∷ more)
