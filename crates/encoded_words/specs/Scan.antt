-- The one cut of a value into words that can be decoded and octets, computed. Also the value
-- with its words replaced.
use Rattle.std.specs.Prelude.{ℕ, ◌+◌, Bool, true, false, ◌==◌, ◌&&◌, List, [], ◌∷◌, length, drop, Option, None, Some, is_some, ◌||◌, if◌then◌else◌}
use Rattle.std.specs.List.{list_any, prefix_len, take_while}
use Rattle.std.specs.Option.{option_and_then, option_map}
use Rattle.sieve_profile.specs.Profile.{Profile}
use Rattle.charsets.specs.Charset.{charset_named}
use Rattle.encoded_words.specs.Meaning.{meaning}
use Rattle.text_cut.specs.Cut.{octet, sequence}
use Rattle.text_cut.specs.Scan as scan
use Rattle.encoded_words.specs.Cut.{ReplacedWord, ValuePiece, joined}
use Rattle.octets.specs.Octet.{is_filled, octet_of}
use Rattle.encoded_words.specs.Word.{EncodedWord, is_letter, is_word_octet}

-- the octets at the start that may stand in a charset or a text
abbrev pub run : List ℕ → List ℕ
run octets = take_while is_word_octet octets

-- the octets after those
abbrev pub after_run : List ℕ → List ℕ
after_run octets = drop (prefix_len is_word_octet octets) octets

-- a word, if the octets after its text begin with `?=`
abbrev pub word_before : EncodedWord → List ℕ → Option EncodedWord
word_before word [] = None
word_before word (q ∷ []) = None
word_before word (q ∷ e ∷ rest) = if q == octet_of "?" && e == octet_of "=" then Some word else None

-- a word, by its charset and the octets after it, which begin with `?`, a letter, `?` and a text
abbrev pub word_after : (charset rest : List ℕ) → Option EncodedWord
word_after charset [] = None
word_after charset (q ∷ []) = None
word_after charset (q ∷ letter ∷ []) = None
word_after charset (q ∷ letter ∷ r ∷ rest) =
    if (is_filled charset && is_letter letter) && (q == octet_of "?" && r == octet_of "?")
    then word_before (record { charset = charset; letter = letter; text = run rest }) (after_run rest)
    else None

-- the word with which octets begin, whether or not it can be decoded (RFC 2047, section 2)
unfoldable pub word_at : List ℕ → Option EncodedWord
word_at [] = None
word_at (c ∷ []) = None
word_at (c ∷ d ∷ rest) = if c == octet_of "=" && d == octet_of "?" then word_after (run rest) (after_run rest) else None

-- a word, with the octets that it stands for, if it can be decoded
abbrev pub with_meaning : Profile → Option EncodedWord → Option ReplacedWord
with_meaning profile found = option_and_then (λ word. option_map (λ octets. record { word = word; octets = octets }) (meaning profile word)) found

-- the word that can be decoded with which a value begins
abbrev pub replaced_at : Profile → List ℕ → Option ReplacedWord
replaced_at profile value = with_meaning profile (word_at value)

-- the number of octets of a word after its first
abbrev pub further : ReplacedWord → ℕ
further found = length found.word.charset + length found.word.text + 6

-- the pieces of a value
abbrev pub pieces_of : Profile → List ℕ → List ValuePiece
pieces_of profile value = scan.pieces_of (replaced_at profile) further value

-- a value with its words replaced
abbrev pub decoded_of : Profile → List ℕ → List ℕ
decoded_of profile value = joined false (pieces_of profile value)

-- whether a piece is a word
abbrev pub is_word : ValuePiece → Bool
is_word (octet c) = false
is_word (sequence found) = true

-- whether a value has a word that can be decoded
abbrev pub has_word : Profile → List ℕ → Bool
has_word profile value = list_any is_word (pieces_of profile value)

-- a value with its words replaced, if it has one
abbrev pub replaced_of : Profile → List ℕ → Option (List ℕ)
replaced_of profile value = if has_word profile value then Some (decoded_of profile value) else None

-- whether there is a word, of a charset that is known
abbrev pub is_known : Profile → Option EncodedWord → Bool
is_known profile None = false
is_known profile (Some word) = is_some (charset_named profile word.charset)

-- whether a word of a known charset is written in a value, whether or not it can be decoded
unfoldable pub has_known : Profile → List ℕ → Bool
has_known profile [] = false
has_known profile (c ∷ rest) = is_known profile (word_at (c ∷ rest)) || has_known profile rest
