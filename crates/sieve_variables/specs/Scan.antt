-- The one cut of a text into references and octets (RFC 5229, section 3), and its parts, computed.
use Rattle.std.specs.Prelude.{ℕ, ◌+◌, Bool, true, false, not, ◌==◌, ◌&&◌, ◌||◌, nat_lt, List, [], ◌∷◌, length, Option, None, Some, if◌then◌else◌}
use Rattle.std.specs.List.{list_any, slice_split}
use Rattle.std.specs.Option.{option_map}
use Rattle.sieve_limits.specs.Limits.{match_limit}
use Rattle.octets.specs.Octet.{octet_of, is_name_octet}
use Rattle.sieve_variables.specs.Name.{is_number, index_of}
use Rattle.text_cut.specs.Cut.{octet, sequence}
use Rattle.text_cut.specs.Scan as scan
use Rattle.sieve_variables.specs.Reference.{ReferencePiece, dotted, is_legal}
use Rattle.sieve_variables.specs.Part.{Part, grouped, is_shared}

-- the octet between the words of a reference
abbrev pub is_dot : ℕ → Bool
is_dot c = c == octet_of "."

-- an octet that may stand between `${` and `}`
abbrev pub is_inside : ℕ → Bool
is_inside c = is_name_octet c || is_dot c

-- the words between dots
abbrev pub words_of : List ℕ → List (List ℕ)
words_of inside = slice_split is_dot inside

-- the octets before the first `}`, where only octets of names and dots are there
unfoldable pub before_brace : List ℕ → Option (List ℕ)
before_brace [] = None
before_brace (c ∷ rest) = if c == octet_of "}" then Some [] else if is_inside c then option_map (λ inside. c ∷ inside) (before_brace rest) else None

-- the octets between the braces, where their words are those of a reference
abbrev pub if_legal : Option (List ℕ) → Option (List ℕ)
if_legal None = None
if_legal (Some inside) = if is_legal (words_of inside) then Some inside else None

-- the octets between `${` and `}`, where a text begins with a reference
unfoldable pub inside_at : List ℕ → Option (List ℕ)
inside_at [] = None
inside_at (c ∷ []) = None
inside_at (c ∷ d ∷ rest) = if c == octet_of "$" && d == octet_of "{" then if_legal (before_brace rest) else None

-- the words of the reference with which a text begins
abbrev pub reference_at : List ℕ → Option (List (List ℕ))
reference_at text = option_map words_of (inside_at text)

-- the number of octets of a reference after its first: `{`, the octets inside, and `}`
abbrev pub further : List (List ℕ) → ℕ
further words = length (dotted words) + 2

-- the pieces of a text
abbrev pub pieces_of : List ℕ → List ReferencePiece
pieces_of text = scan.pieces_of reference_at further text

-- the parts of a text
abbrev pub parts_of_text : List ℕ → List Part
parts_of_text text = grouped (pieces_of text)

-- whether a piece is a reference
abbrev pub is_reference : ReferencePiece → Bool
is_reference (octet c) = false
is_reference (sequence words) = true

-- whether a piece is a reference with a namespace: of more than one word
abbrev pub is_namespaced : ReferencePiece → Bool
is_namespaced (octet c) = false
is_namespaced (sequence words) = nat_lt 1 (length words)

-- whether a piece is a reference with a namespace that isn't to a shared variable (RFC 6609, 3.4.2)
abbrev pub is_foreign : ReferencePiece → Bool
is_foreign (octet c) = false
is_foreign (sequence []) = false
is_foreign (sequence (name ∷ [])) = false
is_foreign (sequence (namespace ∷ name ∷ [])) = not (is_shared namespace name)
is_foreign (sequence (namespace ∷ word ∷ next ∷ words)) = true

-- whether a piece is a reference to a match variable whose number is past the limit
-- (RFC 5229, section 6)
abbrev pub is_far : ReferencePiece → Bool
is_far (octet c) = false
is_far (sequence []) = false
is_far (sequence (name ∷ [])) = is_number name && nat_lt match_limit (index_of name)
is_far (sequence (namespace ∷ word ∷ words)) = false

-- whether a text has a reference
abbrev pub has_reference : List ℕ → Bool
has_reference text = list_any is_reference (pieces_of text)

-- whether a text has a reference with a namespace
abbrev pub has_namespace : List ℕ → Bool
has_namespace text = list_any is_namespaced (pieces_of text)

-- whether a text has a reference with a namespace that isn't to a shared variable
abbrev pub has_foreign_namespace : List ℕ → Bool
has_foreign_namespace text = list_any is_foreign (pieces_of text)

-- whether a text has a reference to a match variable whose number is past the limit
-- (RFC 5229, section 6)
abbrev pub has_far_index : List ℕ → Bool
has_far_index text = list_any is_far (pieces_of text)
