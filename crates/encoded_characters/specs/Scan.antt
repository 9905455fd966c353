-- The one cut of a text into encoded characters and octets, computed. Also the text with
-- its encoded characters replaced.
use Rattle.std.specs.Prelude.{ℕ, ◌+◌, Bool, true, false, ◌&&◌, ◌||◌, ◌==◌, List, [], ◌∷◌, length, take, drop, Option, None, Some, if◌then◌else◌}
use Rattle.std.specs.List.{list_any, prefix_len, take_while}
use Rattle.octets.specs.Octet.{is_white, octet_of}
use Rattle.text_cut.specs.Cut.{octet, sequence}
use Rattle.text_cut.specs.Scan as scan
use Rattle.encoded_characters.specs.Cut.{EncodedPiece, octets_of_pieces}
use Rattle.encoded_characters.specs.Sequence.{InsideSequence, Item, EncodedSequence, inside_written, is_hex, is_hex_digit, is_inside, is_unicode}

-- the octets between `:` and `}`, one by one

-- a digit before items
abbrev pub digit_to : ℕ → (blanks digits : List ℕ) → List Item → List Item
digit_to c [] digits items = record { blanks = []; digits = c ∷ digits } ∷ items
digit_to c (b ∷ blanks) digits items = record { blanks = []; digits = c ∷ [] } ∷ record { blanks = b ∷ blanks; digits = digits } ∷ items

abbrev pub digit_before : ℕ → List Item → List Item
digit_before c [] = record { blanks = []; digits = c ∷ [] } ∷ []
digit_before c (item ∷ items) = digit_to c item.blanks item.digits items

-- another octet before items, and before the octets after the last
abbrev pub blank_before : ℕ → List Item → (last : List ℕ) → InsideSequence
blank_before c [] last = record { items = []; last = c ∷ last }
blank_before c (item ∷ items) last = record { items = record { blanks = c ∷ item.blanks; digits = item.digits } ∷ items; last = last }

abbrev pub octet_onto : ℕ → InsideSequence → InsideSequence
octet_onto c inside = if is_hex_digit c then record { items = digit_before c inside.items; last = inside.last } else blank_before c inside.items inside.last

-- octets as runs of digits, each with the octets before it, and the octets after the last run
unfoldable pub inside_of : List ℕ → InsideSequence
inside_of [] = record { items = []; last = [] }
inside_of (c ∷ rest) = octet_onto c (inside_of rest)

-- the sequence with which a text begins

-- whether an octet may stand between `:` and `}`
abbrev pub may_stand : ℕ → Bool
may_stand c = is_hex_digit c || is_white c

-- the first octets that may stand there, up to one that may not
abbrev pub run : List ℕ → List ℕ
run octets = take_while may_stand octets

-- the octets after those
abbrev pub after_run : List ℕ → List ℕ
after_run octets = drop (prefix_len may_stand octets) octets

-- a sequence, by its word, the octets up to `}`, and the octets after them, which begin with `}`
abbrev pub before_brace : (word octets rest : List ℕ) → Option EncodedSequence
before_brace word octets [] = None
before_brace word octets (c ∷ rest) =
    if c == octet_of "}" && is_inside (is_hex word) (inside_of octets) then Some (record { word = word; inside = inside_of octets }) else None

-- a sequence, by its word and the octets after it, which begin with `:`
abbrev pub after_word : (word rest : List ℕ) → Option EncodedSequence
after_word word [] = None
after_word word (c ∷ rest) = if c == octet_of ":" then before_brace word (run rest) (after_run rest) else None

-- the word with which octets begin
abbrev pub word_at : List ℕ → Option (List ℕ)
word_at octets = if is_hex (take 3 octets) then Some (take 3 octets) else if is_unicode (take 7 octets) then Some (take 7 octets) else None

-- a sequence, by the word with which octets begin
abbrev pub by_word : Option (List ℕ) → List ℕ → Option EncodedSequence
by_word None octets = None
by_word (Some word) octets = after_word word (drop (length word) octets)

-- the sequence with which a text begins
unfoldable pub sequence_at : List ℕ → Option EncodedSequence
sequence_at [] = None
sequence_at (c ∷ []) = None
sequence_at (c ∷ d ∷ rest) = if c == octet_of "$" && d == octet_of "{" then by_word (word_at rest) rest else None

-- the number of octets of a sequence after its first: `{`, its word, `:`, the inside, and `}`
abbrev pub further : EncodedSequence → ℕ
further s = length s.word + length (inside_written s.inside) + 3

-- the pieces of a text
abbrev pub pieces_of : List ℕ → List EncodedPiece
pieces_of text = scan.pieces_of sequence_at further text

-- A text with its encoded characters replaced (RFC 5228, 2.4.2.4). None where one of
-- them isn't a character.
abbrev pub characters_replaced : List ℕ → Option (List ℕ)
characters_replaced text = octets_of_pieces (pieces_of text)

-- whether a piece is a sequence
abbrev pub is_sequence : EncodedPiece → Bool
is_sequence (octet c) = false
is_sequence (sequence s) = true

-- whether a text has encoded characters
abbrev pub has_sequence : List ℕ → Bool
has_sequence text = list_any is_sequence (pieces_of text)
