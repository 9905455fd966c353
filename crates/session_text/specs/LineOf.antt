-- How a line is made of words.
use Rattle.std.specs.Prelude.{◌≡◌, ℕ, ◌<◌, true, ◌⊎◌, List, [], ◌∷◌, ◌++◌, length}
use Rattle.std.specs.List.{All}
use Rattle.octets.specs.Octet.{octet_of}
use Rattle.devices.specs.Writers.{quoted}
use Rattle.session_text.specs.SessionLine.{is_bare}

-- some octets, each of which may stand in a bare word
pub record IsBareWord (word : List ℕ) : Type 0 where
  pub some : 0 < length word
  pub bare : All (λ b. is_bare b ≡ true) word

-- a bare word, or the quoted form of octets
abbrev pub IsWord : List ℕ → Type 0
IsWord word = IsBareWord word ⊎ ((octets : List ℕ) × (word ≡ quoted octets))

-- words with one space between each two
abbrev pub joined : List (List ℕ) → List ℕ
joined [] = []
joined (word ∷ []) = word
joined (word ∷ next ∷ words) = word ++ octet_of " " ∷ joined (next ∷ words)

-- A line of these words, in this order. There is a space or more between each two of them, and any
-- before and after.
pub data IsLineOf : List (List ℕ) → List ℕ → Type 0 where
  no_words : IsLineOf [] []
  last_word : (word : List ℕ) → IsWord word → IsLineOf (word ∷ []) word
  after_space : (words : List (List ℕ)) (line : List ℕ) → IsLineOf words line → IsLineOf words (octet_of " " ∷ line)
  first_word : (word : List ℕ) (words : List (List ℕ)) (line : List ℕ) → IsWord word → IsLineOf words line → IsLineOf (word ∷ words) (word ++ octet_of " " ∷ line)
