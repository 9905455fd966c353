-- The octets that quoted-printable stands for (RFC 2045, 6.7). The blanks at the ends of lines go
-- first. The rest is cut into escapes, soft line ends and octets.
use Rattle.std.specs.Prelude.{◌≡◌, ℕ, nat_lt, ◌==◌, Bool, true, ◌&&◌, ◌||◌, List, [], ◌∷◌, ◌++◌, length, take, drop, Option, None, Some, is_some, if◌then◌else◌, option_to_list}
use Rattle.std.specs.List.{prefix_len}
use Rattle.octets.specs.Hex.{hex_octet}
use Rattle.octets.specs.Octet.{is_blank, octet_of}
use Rattle.text_cut.specs.Cut as cut
use Rattle.text_cut.specs.Cut.{TextPiece, octet, sequence}
use Rattle.text_cut.specs.Scan as scan
use Rattle.mime_text.specs.Lines.{end_len, is_line_end}

-- BLANKS AT THE ENDS OF LINES

-- whether a text is empty or begins with a line end
abbrev pub is_at_end : List ℕ → Bool
is_at_end text = length text == 0 || nat_lt 0 (end_len text)

-- whether a line end or the end of the text comes after the blanks at the start, if any
abbrev pub leads_to_end : List ℕ → Bool
leads_to_end text = is_at_end (drop (prefix_len is_blank text) text)

-- a text without the blanks at the ends of its lines; the last line may end with the text
unfoldable pub without_padding : List ℕ → List ℕ
without_padding [] = []
without_padding (c ∷ rest) = if is_blank c && leads_to_end rest then without_padding rest else c ∷ without_padding rest

-- SEQUENCES

-- an escape with its two digits, or a soft line end with the line end in it
pub data QuotedSequence : Type 0 where
  escape : (high low : ℕ) → QuotedSequence
  soft_end : (end : List ℕ) → QuotedSequence

-- a sequence as it is written
abbrev pub written : QuotedSequence → List ℕ
written (escape high low) = octet_of "=" ∷ high ∷ low ∷ []
written (soft_end end) = octet_of "=" ∷ end

-- whether a sequence is a legal one: two hexadecimal digits, in either case, or a line end
abbrev pub is_legal : QuotedSequence → Bool
is_legal (escape high low) = is_some (hex_octet high low)
is_legal (soft_end end) = is_line_end end

abbrev pub IsLegalQuoted : QuotedSequence → Type 0
IsLegalQuoted s = is_legal s ≡ true

-- A text is cut from the left into sequences and single octets. No sequence begins where
-- an octet stands alone.
abbrev pub CutsQuoted : List (TextPiece QuotedSequence) → List ℕ → Type 0
CutsQuoted pieces text = cut.Cuts written IsLegalQuoted pieces text

-- the octets that a piece stands for: an octet for itself, and a soft line end for none
abbrev pub octets_of_piece : TextPiece QuotedSequence → List ℕ
octets_of_piece (octet c) = c ∷ []
octets_of_piece (sequence (escape high low)) = option_to_list (hex_octet high low)
octets_of_piece (sequence (soft_end end)) = []

unfoldable pub octets_of_pieces : List (TextPiece QuotedSequence) → List ℕ
octets_of_pieces [] = []
octets_of_pieces (piece ∷ more) = octets_of_piece piece ++ octets_of_pieces more

-- THE SAME, COMPUTED

-- the escape that an `=` begins before this text
abbrev pub escape_at : List ℕ → Option QuotedSequence
escape_at [] = None
escape_at (c ∷ []) = None
escape_at (c ∷ d ∷ rest) = if is_some (hex_octet c d) then Some (escape c d) else None

-- the sequence that an `=` begins before this text
abbrev pub after_sign : List ℕ → Option QuotedSequence
after_sign rest = if nat_lt 0 (end_len rest) then Some (soft_end (take (end_len rest) rest)) else escape_at rest

-- the sequence with which a text begins
unfoldable pub sequence_at : List ℕ → Option QuotedSequence
sequence_at [] = None
sequence_at (c ∷ rest) = if c == octet_of "=" then after_sign rest else None

-- the number of octets of a sequence after its first
abbrev pub further : QuotedSequence → ℕ
further (escape high low) = 2
further (soft_end end) = length end

-- the pieces of a text
abbrev pub pieces_of : List ℕ → List (TextPiece QuotedSequence)
pieces_of text = scan.pieces_of sequence_at further text

-- the octets that a content in quoted-printable stands for
abbrev pub quoted_octets : List ℕ → List ℕ
quoted_octets text = octets_of_pieces (pieces_of (without_padding text))
