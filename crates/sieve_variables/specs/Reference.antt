-- The references to variables in a string (RFC 5229, section 3): `${`, words with dots between
-- them, and `}`. The last word names a variable: it is an identifier, or the number of a match
-- variable. The words before it are its namespace, and the first of these is an identifier.
use Rattle.std.specs.Prelude.{◌≡◌, ℕ, Bool, true, false, ◌&&◌, ◌||◌, List, [], ◌∷◌, ◌++◌, codes}
use Rattle.std.specs.List.{flat_map, list_all}
use Rattle.octets.specs.Octet.{octet_of}
use Rattle.text_cut.specs.Cut as cut
use Rattle.text_cut.specs.Cut.{TextPiece, sequence}
use Rattle.sieve_variables.specs.Name.{is_identifier, is_number}

-- a word of a reference, the `variable-name` of RFC 5229, section 3: an identifier or a number
abbrev pub is_name : List ℕ → Bool
is_name word = is_identifier word || is_number word

-- whether words are those of a reference
abbrev pub is_legal : List (List ℕ) → Bool
is_legal [] = false
is_legal (name ∷ []) = is_name name
is_legal (namespace ∷ word ∷ words) = is_identifier namespace && list_all is_name (word ∷ words)

-- words with dots between them
abbrev pub dotted : List (List ℕ) → List ℕ
dotted [] = []
dotted (word ∷ words) = word ++ flat_map (λ further. octet_of "." ∷ further) words

-- a reference as it is written
abbrev pub written : List (List ℕ) → List ℕ
written words = codes "${" ++ dotted words ++ codes "}"

-- words that are those of a reference
abbrev pub IsLegalReference : List (List ℕ) → Type 0
IsLegalReference words = is_legal words ≡ true

-- a piece of a text: a reference, by its words, or an octet
abbrev pub ReferencePiece : Type 0
ReferencePiece = TextPiece (List (List ℕ))

abbrev pub reference : (words : List (List ℕ)) → ReferencePiece
reference words = sequence words

-- A text is cut from the left into references and single octets. No reference begins where an octet
-- stands alone: text that isn't one stays as it is (RFC 5229, section 3).
abbrev pub CutsReferences : List ReferencePiece → List ℕ → Type 0
CutsReferences pieces text = cut.Cuts written IsLegalReference pieces text
