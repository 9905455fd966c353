-- A text that is cut from the left into sequences and single octets. The user of these definitions
-- says what a sequence is, how it is written and when it is legal.
use Rattle.std.specs.Prelude.{◌≡◌, ℕ, List, [], ◌∷◌, ◌++◌}

-- a piece of a text: a sequence, or an octet
pub data TextPiece (S : Type 0) : Type 0 where
  sequence : (sequence : S) → TextPiece S
  octet : (octet : ℕ) → TextPiece S

-- a text that begins with a legal sequence
pub record Begins {S : Type 0} (written : S → List ℕ) (Legal : S → Type 0) (text : List ℕ) : Type 0 where
  pub first : S
  pub rest : List ℕ
  pub legal : Legal first
  pub is : text ≡ written first ++ rest

-- A text is cut from the left into legal sequences and single octets. No legal sequence begins
-- where an octet stands alone.
abbrev pub Cuts : {S : Type 0} (written : S → List ℕ) (Legal : S → Type 0) → List (TextPiece S) → List ℕ → Type 0
Cuts written Legal [] text = text ≡ []
Cuts written Legal (sequence s ∷ pieces) text = Legal s × (rest : List ℕ) × (text ≡ written s ++ rest) × Cuts written Legal pieces rest
Cuts written Legal (octet c ∷ pieces) text = (Begins written Legal text → ⊥) × (rest : List ℕ) × (text ≡ c ∷ rest) × Cuts written Legal pieces rest
