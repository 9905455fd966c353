-- A value with its encoded words replaced.
use Rattle.std.specs.Prelude.{◌≡◌, ℕ, Bool, true, false, ◌&&◌, List, [], ◌∷◌, ◌++◌, Some, if◌then◌else◌}
use Rattle.std.specs.List.{list_all}
use Rattle.sieve_profile.specs.Profile.{Profile}
use Rattle.text_cut.specs.Cut as cut
use Rattle.text_cut.specs.Cut.{TextPiece, octet, sequence}
use Rattle.encoded_words.specs.Meaning.{meaning}
use Rattle.octets.specs.Octet.{is_blank}
use Rattle.encoded_words.specs.Word.{EncodedWord, is_legal, written}

-- a word, with the octets that it stands for
pub record ReplacedWord : Type 0 where
  pub word : EncodedWord
  pub octets : List ℕ

abbrev pub word_written : ReplacedWord → List ℕ
word_written found = written found.word

-- whether it is a word that can be decoded, and stands for these octets
abbrev pub IsReplacedWord : Profile → ReplacedWord → Type 0
IsReplacedWord profile found = (is_legal found.word ≡ true) × (meaning profile found.word ≡ Some found.octets)

-- a piece of a value: a word with the octets that it stands for, or an octet
abbrev pub ValuePiece : Type 0
ValuePiece = TextPiece ReplacedWord

abbrev pub replaced : (word : EncodedWord) (octets : List ℕ) → ValuePiece
replaced word octets = sequence (record { word = word; octets = octets })

-- A value is cut from the left into words that can be decoded and single octets. No such word
-- begins where an octet stands alone. So one is replaced even where it begins inside a word that
-- can't be decoded. The octets of the latter around it stay as they are written.
abbrev pub CutsWords : Profile → List ValuePiece → List ℕ → Type 0
CutsWords profile pieces value = cut.Cuts word_written (IsReplacedWord profile) pieces value

-- whether pieces are spaces and tabs, if any, and then a word
abbrev pub leads_to_word : List ValuePiece → Bool
leads_to_word [] = false
leads_to_word (sequence found ∷ pieces) = true
leads_to_word (octet c ∷ pieces) = is_blank c && leads_to_word pieces

-- The octets that pieces stand for. After a word, spaces and tabs that lead to another one are
-- dropped (RFC 2047, 6.2).
abbrev pub joined : (after_word : Bool) → List ValuePiece → List ℕ
joined after_word [] = []
joined after_word (sequence found ∷ pieces) = found.octets ++ joined true pieces
joined after_word (octet c ∷ pieces) = if after_word && leads_to_word (octet c ∷ pieces) then joined true pieces else c ∷ joined false pieces

-- the octets before a word that stay; after another word, spaces and tabs alone don't
abbrev pub kept : (after_word : Bool) → List ℕ → List ℕ
kept after_word gap = if after_word && list_all is_blank gap then [] else gap
