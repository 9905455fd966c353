-- How a line falls into words.
use Rattle.octets.specs.Octet.{octet_of}
use Rattle.std.proofs.Common.{◌≡◌, ◌≢◌, ℕ, ◌+◌, ◌<◌, ◌≤◌, List, [], ◌∷◌, length, get_or, take, drop, sym, ap, ◌∙◌, refl, arith, filter, length-take, rules, Bool, true, false}
use Rattle.std.proofs.lemmas.Bool.Decides.{nat_tests}
use Rattle.std.proofs.lemmas.List.{drop_more}
use Rattle.session_text.specs.SessionLine.{pieces_from, piece_length, line_words, grow_first, is_word, is_gap, quoting_after, Quoting, outside, inside, escaped}

-- a space in front changes no word
pub line_words-space : (bs : List ℕ) → line_words (octet_of " " ∷ bs) ≡ line_words bs
unfolding line_words
line_words-space bs = refl

-- a space before words is passed over
pub line_words-drop : (line : List ℕ) (i : ℕ) → i < length line → get_or line i 0 ≡ octet_of " " → line_words (drop (i + 1) line) ≡ line_words (drop i line)
line_words-drop line i within is =
    sym (ap line_words (drop_more line i 0 within) ∙ ap (λ b. line_words (b ∷ drop (i + 1) line)) is ∙ line_words-space (drop (i + 1) line))

-- the pieces after the first: those of the octets after a space
abbrev after_space : List ℕ → List (List ℕ)
after_space [] = []
after_space (b ∷ bs) = pieces_from outside bs

-- a piece lies in the line
pub piece_length-within : (quoting : Quoting) (line : List ℕ) → piece_length quoting line ≤ length line
piece_length-within quoting [] = omega arith
piece_length-within quoting (b ∷ bs) = by_gap (is_gap quoting b) refl (piece_length-within (quoting_after quoting b) bs)
  where
    by_gap : (gap : Bool) → is_gap quoting b ≡ gap → piece_length (quoting_after quoting b) bs ≤ length bs → piece_length quoting (b ∷ bs) ≤ length (b ∷ bs)
    by_gap true is later = rw is (omega arith)
    by_gap false is later = rw is (omega (arith, later))

-- the pieces of a line are the first one, and those after it
pieces_from-first : (quoting : Quoting) (line : List ℕ) → pieces_from quoting line ≡ take (piece_length quoting line) line ∷ after_space (drop (piece_length quoting line) line)
pieces_from-first quoting [] = refl
pieces_from-first quoting (b ∷ bs) = by_gap (is_gap quoting b) refl (pieces_from-first (quoting_after quoting b) bs)
  where
    by_gap : (gap : Bool) → is_gap quoting b ≡ gap → pieces_from (quoting_after quoting b) bs ≡ take (piece_length (quoting_after quoting b) bs) bs ∷ after_space (drop (piece_length (quoting_after quoting b) bs) bs) → pieces_from quoting (b ∷ bs) ≡ take (piece_length quoting (b ∷ bs)) (b ∷ bs) ∷ after_space (drop (piece_length quoting (b ∷ bs)) (b ∷ bs))
    by_gap true is later = rw is refl
    by_gap false is later = rw is (ap (grow_first b) later)

-- the octets after a piece begin with a space, which changes no word
after_piece : (quoting : Quoting) (line : List ℕ) → filter is_word (after_space (drop (piece_length quoting line) line)) ≡ line_words (drop (piece_length quoting line) line)
unfolding line_words
after_piece quoting [] = refl
after_piece quoting (b ∷ bs) = by_gap (is_gap quoting b) refl (after_piece (quoting_after quoting b) bs)
  where
    at_gap : (quoting : Quoting) → is_gap quoting b ≡ true → filter is_word (pieces_from outside bs) ≡ filter is_word (pieces_from outside (b ∷ bs))
    at_gap outside is = rw is refl
    at_gap inside is = absurd (search rules)
    at_gap escaped is = absurd (search rules)

    by_gap : (gap : Bool) → is_gap quoting b ≡ gap → filter is_word (after_space (drop (piece_length (quoting_after quoting b) bs) bs)) ≡ filter is_word (pieces_from outside (drop (piece_length (quoting_after quoting b) bs) bs))
        → filter is_word (after_space (drop (piece_length quoting (b ∷ bs)) (b ∷ bs))) ≡ filter is_word (pieces_from outside (drop (piece_length quoting (b ∷ bs)) (b ∷ bs)))
    by_gap true is later = rw is (at_gap quoting is)
    by_gap false is later = rw is later

-- a piece of some octets is a word
kept : (word : List ℕ) (pieces : List (List ℕ)) → 0 < length word → filter is_word (word ∷ pieces) ≡ word ∷ filter is_word pieces
kept [] pieces some = absurd (omega arith)
kept (b ∷ bs) pieces some = refl

-- the octets before the first space of a line that no quotes hold are its first word
pub line_words-word : (line : List ℕ) (n : ℕ) → n ≡ piece_length outside line → 0 < n → line_words line ≡ take n line ∷ line_words (drop n line)
unfolding line_words
line_words-word line n is some =
    let within : n ≤ length line = rw is (piece_length-within outside line) in
    let first : pieces_from outside line ≡ take n line ∷ after_space (drop n line) = rw is (pieces_from-first outside line) in
    ap (filter is_word) first ∙ (kept (take n line) (after_space (drop n line)) (omega (arith, within, length-take n line)) ∙ ap (λ words. take n line ∷ words) (rw is (after_piece outside line)))

-- a line that has octets and begins with no space begins with a word
pub piece_length-some : (line : List ℕ) → 0 < length line → get_or line 0 0 ≢ octet_of " " → 0 < piece_length outside line
piece_length-some [] some none = absurd (omega arith)
piece_length-some (b ∷ bs) some none = grind (arith, nat_tests)

-- an empty line has no words
pub line_words-none : (line : List ℕ) → length line ≡ 0 → line_words line ≡ []
unfolding line_words
line_words-none [] none = refl
line_words-none (b ∷ bs) none = absurd (omega arith)
