-- A text cut into encoded characters and octets (RFC 5228, 2.4.2.4), and the octets it stands for.
use Rattle.std.specs.Prelude.{◌≡◌, ℕ, true, List, [], ◌∷◌, Option, Some}
use Rattle.text_cut.specs.Cut as cut
use Rattle.text_cut.specs.Cut.{TextPiece, octet, sequence}
use Rattle.encoded_characters.specs.Sequence.{EncodedSequence, is_legal, written}
use Rattle.encoded_characters.specs.Value.{joined, octets_of_sequence}

-- whether a sequence is one of encoded characters
abbrev pub IsLegalEncoded : EncodedSequence → Type 0
IsLegalEncoded s = is_legal s ≡ true

-- a piece of a text: a sequence, or an octet
abbrev pub EncodedPiece : Type 0
EncodedPiece = TextPiece EncodedSequence

-- A text is cut from the left into sequences and single octets. No sequence begins where an octet
-- stands alone: all that isn't a sequence stays as it is written.
abbrev pub CutsEncoded : List EncodedPiece → List ℕ → Type 0
CutsEncoded pieces text = cut.Cuts written IsLegalEncoded pieces text

-- the octets that a piece stands for, if it stands for any
abbrev pub octets_of_piece : EncodedPiece → Option (List ℕ)
octets_of_piece (sequence s) = octets_of_sequence s
octets_of_piece (octet c) = Some (c ∷ [])

-- The octets that pieces stand for, in turn. None where one of them stands for nothing. They
-- aren't looked at again.
abbrev pub octets_of_pieces : List EncodedPiece → Option (List ℕ)
octets_of_pieces pieces = joined octets_of_piece pieces
