-- A string as its parts: octets that stand for themselves, and references to variables
-- (RFC 5229, section 3).
use Rattle.std.specs.Prelude.{◌≡◌, ℕ, Bool, true, ◌&&◌, List, [], ◌∷◌, ◌++◌, if◌then◌else◌}
use Rattle.std.specs.Str.{str_eq_ignore_ascii_case}
use Rattle.sieve_variables.specs.Name.{is_identifier, is_number, index_of, folded_name, global_namespace}
use Rattle.text_cut.specs.Cut.{octet, sequence}
use Rattle.sieve_variables.specs.Reference.{ReferencePiece, written}
use Rattle.sieve_variables.specs.Variable.{Variable, local_variable, global_variable, scoped}

-- a part: octets, a variable, or a match variable by its number
pub data Part : Type 0 where
  literal : (octets : List ℕ) → Part
  variable_part : (variable : Variable) → Part
  match_part : (index : ℕ) → Part

abbrev pub local_part : List ℕ → Part
local_part name = variable_part (local_variable name)

abbrev pub global_part : List ℕ → Part
global_part name = variable_part (global_variable name)

-- whether a namespace is that of the variables that scripts share, and the name is an identifier
-- (RFC 6609, 3.4.2)
abbrev pub is_shared : (namespace name : List ℕ) → Bool
is_shared namespace name = str_eq_ignore_ascii_case global_namespace namespace && is_identifier name

-- The part that the words of a reference make. One with a namespace that isn't to a shared variable
-- stands as it is written. No script without a fault has such a reference.
abbrev pub part_of_words : List (List ℕ) → Part
part_of_words [] = literal []
part_of_words (name ∷ []) = if is_identifier name then local_part (folded_name name) else match_part (index_of name)
part_of_words (namespace ∷ name ∷ []) = if is_shared namespace name then global_part (folded_name name) else literal (written (namespace ∷ name ∷ []))
part_of_words (namespace ∷ word ∷ next ∷ words) = literal (written (namespace ∷ word ∷ next ∷ words))

-- an octet before parts: octets in a row are one literal
abbrev pub octet_before : ℕ → List Part → List Part
octet_before c [] = literal (c ∷ []) ∷ []
octet_before c (literal octets ∷ parts) = literal (c ∷ octets) ∷ parts
octet_before c (variable_part variable ∷ parts) = literal (c ∷ []) ∷ variable_part variable ∷ parts
octet_before c (match_part index ∷ parts) = literal (c ∷ []) ∷ match_part index ∷ parts

-- The parts that pieces make. A reference that stands as it is written is a literal. Octets
-- directly before it join it, and octets after it begin another.
abbrev pub grouped : List ReferencePiece → List Part
grouped [] = []
grouped (sequence words ∷ pieces) = part_of_words words ∷ grouped pieces
grouped (octet c ∷ pieces) = octet_before c (grouped pieces)

-- A text that can be written for these parts. A name is in any case, and so is the `global.` before
-- one that scripts share. A number may have zeros in front, and past the limit it may be any.
abbrev pub AreWritten : List Part → List ℕ → Type 0
AreWritten [] text = text ≡ []
AreWritten (literal octets ∷ parts) text = (rest : List ℕ) × (text ≡ octets ++ rest) × AreWritten parts rest
AreWritten (variable_part (local_variable name) ∷ parts) text = (word rest : List ℕ) × (is_identifier word ≡ true) × (folded_name word ≡ name) × (text ≡ written (word ∷ []) ++ rest) × AreWritten parts rest
AreWritten (variable_part (global_variable name) ∷ parts) text = (namespace word rest : List ℕ) × (is_shared namespace word ≡ true) × (folded_name word ≡ name) × (text ≡ written (namespace ∷ word ∷ []) ++ rest) × AreWritten parts rest
AreWritten (match_part index ∷ parts) text = (word rest : List ℕ) × (is_number word ≡ true) × (index_of word ≡ index) × (text ≡ written (word ∷ []) ++ rest) × AreWritten parts rest

-- a part after names, in lower case, were declared global (RFC 6609, 3.4.1)
abbrev pub scoped_part : (declared : List (List ℕ)) → Part → Part
scoped_part declared (literal octets) = literal octets
scoped_part declared (variable_part variable) = variable_part (scoped declared variable)
scoped_part declared (match_part index) = match_part index
