-- The meaning of a text: the one tree that writes it, or the line of its first fault.
use Rattle.std.specs.Prelude.{◌≡◌, ℕ, ◌⊎◌, List, [], ◌∷◌, ◌++◌, length, Result}
use Rattle.sieve_limits.specs.Limits.{test_depth, block_room}
use Rattle.sieve_syntax.specs.Grammar.{WritesSymbols, BeginsAt}
use Rattle.sieve_syntax.specs.Machine.{start, read}
use Rattle.sieve_syntax.specs.Scan.{tokens_of}
use Rattle.sieve_syntax.specs.Token.{Spells, line_at}
use Rattle.sieve_syntax.specs.Tree.{Command}
use Rattle.sieve_syntax.specs.Symbol.{symbols_of}
use Rattle.sieve_syntax.specs.declared.token.Token.{Token}

-- The line is that of the first token with which the tokens begin nothing that a tree writes.
pub record IsFaultAt (depth room : ℕ) (text : List ℕ) (tokens : List Token) (line : ℕ) : Type 0 where
  pub front : List Token
  pub token : Token
  pub rest : List Token
  pub split : tokens ≡ front ++ token ∷ rest
  pub begins : BeginsAt depth room (symbols_of text front)
  pub stops : BeginsAt depth room (symbols_of text (front ++ token ∷ [])) → ⊥
  pub line_is : line ≡ token.line

-- The tokens begin a list that a tree writes, but no tree writes them alone. The line is that
-- of the end.
pub record IsFaultAtEnd (depth room : ℕ) (text : List ℕ) (tokens : List Token) (line : ℕ) : Type 0 where
  pub begins : BeginsAt depth room (symbols_of text tokens)
  pub stops : (tree : List Command) → WritesSymbols depth room tree (symbols_of text tokens) → ⊥
  pub line_is : line ≡ line_at text (length text)

-- the tree writes the text: it writes the tokens that spell it
pub record WritesText (tree : List Command) (text : List ℕ) : Type 0 where
  pub tokens : List Token
  pub spelled : Spells tokens text
  pub written : WritesSymbols test_depth block_room tree (symbols_of text tokens)

-- The line of the first token with which the tokens begin nothing that a tree writes. Without such
-- a token it is the line of the end, if no tree writes the tokens.
pub record IsFaultLine (text : List ℕ) (line : ℕ) : Type 0 where
  pub tokens : List Token
  pub spelled : Spells tokens text
  pub fault : IsFaultAt test_depth block_room text tokens line ⊎ IsFaultAtEnd test_depth block_room text tokens line

-- the tree that writes a text, or the line of its fault
unfoldable pub syntax_of : List ℕ → Result (List Command) ℕ
syntax_of text = read test_depth block_room text start (tokens_of text)
