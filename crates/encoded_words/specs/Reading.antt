-- The octets that a search for words reads, where it tries each place of a value. Beside these
-- octets a try reads no more than its seven signs.
use Rattle.std.specs.Prelude.{ℕ, ◌+◌, ◌==◌, ◌&&◌, List, [], ◌∷◌, if◌then◌else◌}
use Rattle.std.specs.List.{prefix_len}
use Rattle.octets.specs.Octet.{octet_of}
use Rattle.encoded_words.specs.Scan.{after_run}
use Rattle.encoded_words.specs.Word.{is_letter, is_word_octet}

-- the number of octets at the start that may stand in a charset or a text
abbrev pub run_len : List ℕ → ℕ
run_len octets = prefix_len is_word_octet octets

-- the number of octets that are read as a text after a charset: those after `?`, a letter and `?`
abbrev pub text_len : List ℕ → ℕ
text_len [] = 0
text_len (q ∷ []) = 0
text_len (q ∷ letter ∷ []) = 0
text_len (q ∷ letter ∷ r ∷ rest) = if q == octet_of "?" && (is_letter letter && r == octet_of "?") then run_len rest else 0

-- the number of octets that a try at the start reads as a charset: those after `=?`
abbrev pub charset_read : List ℕ → ℕ
charset_read [] = 0
charset_read (c ∷ []) = 0
charset_read (c ∷ d ∷ rest) = if c == octet_of "=" && d == octet_of "?" then run_len rest else 0

-- the number of octets that a try at the start reads as a text
abbrev pub text_read : List ℕ → ℕ
text_read [] = 0
text_read (c ∷ []) = 0
text_read (c ∷ d ∷ rest) = if c == octet_of "=" && d == octet_of "?" then text_len (after_run rest) else 0

-- the sum over the tries at all places
abbrev pub sum_of_places : (List ℕ → ℕ) → List ℕ → ℕ
sum_of_places read [] = 0
sum_of_places read (c ∷ rest) = read (c ∷ rest) + sum_of_places read rest
