-- The one cut of a text into sequences and octets, computed.
use Rattle.std.specs.Prelude.{◌≡◌, ℕ, zero, suc, List, [], ◌∷◌, ◌++◌, length, Option, None, Some}
use Rattle.text_cut.specs.Cut.{TextPiece, octet, sequence}

-- A search for the sequence with which a text begins. It finds exactly the legal ones, as they are
-- written. The number of octets of a legal sequence after its first is known.
pub record FindsSequences {S : Type 0} (written : S → List ℕ) (Legal : S → Type 0) (at : List ℕ → Option S) (further : S → ℕ) : Type 0 where
  pub legal : (text : List ℕ) (s : S) → at text ≡ Some s → Legal s
  pub is : (text : List ℕ) (s : S) → at text ≡ Some s → (rest : List ℕ) × (text ≡ written s ++ rest)
  pub found : (s : S) (rest : List ℕ) → Legal s → at (written s ++ rest) ≡ Some s
  pub count : (s : S) → Legal s → length (written s) ≡ suc (further s)

-- the first piece of a text, by its first octet and the sequence with which it begins, if any
abbrev pub first_piece : {S : Type 0} → ℕ → Option S → TextPiece S
first_piece c None = octet c
first_piece c (Some s) = sequence s

-- the number of octets of that piece after its first
abbrev pub further_octets : {S : Type 0} → (further : S → ℕ) → Option S → ℕ
further_octets further None = 0
further_octets further (Some s) = further s

-- the pieces of a text whose first `skip` octets belong to the piece before
unfoldable pub pieces_from : {S : Type 0} (at : List ℕ → Option S) (further : S → ℕ) (skip : ℕ) → List ℕ → List (TextPiece S)
pieces_from at further skip [] = []
pieces_from at further zero (c ∷ rest) = first_piece c (at (c ∷ rest)) ∷ pieces_from at further (further_octets further (at (c ∷ rest))) rest
pieces_from at further (suc skip) (c ∷ rest) = pieces_from at further skip rest

-- the pieces of a text
abbrev pub pieces_of : {S : Type 0} (at : List ℕ → Option S) (further : S → ℕ) → List ℕ → List (TextPiece S)
pieces_of at further text = pieces_from at further 0 text
