-- Encoded words (RFC 2047, section 2): `=?`, a charset, `?`, the letter of an encoding,
-- `?`, a text, and `?=`. Charset and text have no limit of length, and may have each
-- visible octet but `?`.
use Rattle.std.specs.Prelude.{ℕ, Bool, not, ◌&&◌, ◌||◌, ◌==◌, List, ◌∷◌, ◌++◌, codes}
use Rattle.std.specs.List.{list_all}
use Rattle.octets.specs.Octet.{is_filled, is_visible, octet_of}

-- an encoded word
pub record EncodedWord : Type 0 where
  pub charset : List ℕ
  pub letter : ℕ
  pub text : List ℕ

-- whether an octet may stand in a charset or a text
abbrev pub is_word_octet : ℕ → Bool
is_word_octet octet = is_visible octet && not (octet == octet_of "?")

-- whether a letter is that of the encoding B, in either case
abbrev pub is_b : ℕ → Bool
is_b letter = letter == octet_of "B" || letter == octet_of "b"

-- whether a letter is that of the encoding Q, in either case
abbrev pub is_q : ℕ → Bool
is_q letter = letter == octet_of "Q" || letter == octet_of "q"

-- whether a letter is that of an encoding
abbrev pub is_letter : ℕ → Bool
is_letter letter = is_b letter || is_q letter

-- whether a word is legal
abbrev pub is_legal : EncodedWord → Bool
is_legal word = (is_filled word.charset && list_all is_word_octet word.charset) && (is_letter word.letter && list_all is_word_octet word.text)

-- a word as it is written
abbrev pub written : EncodedWord → List ℕ
written word = codes "=?" ++ word.charset ++ octet_of "?" ∷ word.letter ∷ octet_of "?" ∷ word.text ++ codes "?="
