-- The octets that quoted-printable stands for, piece by piece.
use Rattle.std.proofs.Common.{◌≡◌, ℕ, suc, ◌+◌, ◌-◌, ◌<◌, ◌≤◌, Bool, true, false, ◌==◌, nat_lt, ◌&&◌, cond, List, [], ◌∷◌, ◌++◌, length, take, drop, get_or, slice_index, None, Some, is_some, option_to_list, refl, sym, ap, ◌∙◌, arith}
use Rattle.std.specs.List.{prefix_len}
use Rattle.std.proofs.lemmas.Bool.Decides.{nat_tests}
use Rattle.std.proofs.lemmas.List.{length-take-le, take_all}
use Rattle.octets.specs.Hex.{hex_octet}
use Rattle.octets.specs.Octet.{is_blank, octet_of}
use Rattle.text_cut.specs.Cut.{sequence}
use Rattle.text_cut.specs.Scan.{pieces_from}
use Rattle.text_cut.proofs.Cut.{pieces-octet, pieces-sequence}
use Rattle.mime_text.specs.Lines.{end_len}
use Rattle.mime_text.specs.QuotedPrintable.{QuotedSequence, after_sign, escape, escape_at, further, is_at_end, leads_to_end, octets_of_piece, octets_of_pieces, pieces_of, sequence_at, soft_end, without_padding}

-- THE FIRST PIECE

octet_first : (c : ℕ) (rest : List ℕ) → sequence_at (c ∷ rest) ≡ None → octets_of_pieces (pieces_of (c ∷ rest)) ≡ c ∷ octets_of_pieces (pieces_of rest)
unfolding octets_of_pieces
octet_first c rest none = ap octets_of_pieces (pieces-octet sequence_at further c rest none)

sequence_first : (c : ℕ) (rest : List ℕ) (s : QuotedSequence) → sequence_at (c ∷ rest) ≡ Some s → octets_of_pieces (pieces_of (c ∷ rest)) ≡ octets_of_piece (sequence s) ++ octets_of_pieces (pieces_of (drop (further s) rest))
unfolding octets_of_pieces
sequence_first c rest s found = ap octets_of_pieces (pieces-sequence sequence_at further c rest s found)

-- an octet that isn't an `=` stands for itself
pub plain_first : (c : ℕ) (rest : List ℕ) → (c == octet_of "=") ≡ false → octets_of_pieces (pieces_of (c ∷ rest)) ≡ c ∷ octets_of_pieces (pieces_of rest)
unfolding sequence_at
plain_first c rest other = octet_first c rest (ap (λ b. cond b (after_sign rest) None) other)

signed : (c : ℕ) (rest : List ℕ) → c ≡ octet_of "=" → sequence_at (c ∷ rest) ≡ after_sign rest
unfolding sequence_at
signed c rest is = ap (λ b. cond (b == octet_of "=") (after_sign rest) None) is

escape_there : (rest : List ℕ) (b : ℕ) → 2 ≤ length rest → hex_octet (get_or rest 0 0) (get_or rest 1 0) ≡ Some b → escape_at rest ≡ Some (escape (get_or rest 0 0) (get_or rest 1 0))
escape_there [] b long hex = absurd (omega (arith, long))
escape_there (high ∷ []) b long hex = absurd (omega (arith, long))
escape_there (high ∷ low ∷ rest) b long hex = ap (λ found. cond (is_some found) (Some (escape high low)) None) hex

module _ (c : ℕ) (rest : List ℕ) (is : c ≡ octet_of "=") where
  -- an `=` before a line end goes with it
  pub soft_first : 0 < end_len rest → end_len rest ≤ length rest → octets_of_pieces (pieces_of (c ∷ rest)) ≡ octets_of_pieces (pieces_of (drop (end_len rest) rest))
  soft_first some within =
      let yes : nat_lt 0 (end_len rest) ≡ true = grind (arith, nat_tests, some) in
      let len : length (take (end_len rest) rest) ≡ end_len rest = length-take-le (end_len rest) rest within in
      sequence_first c rest (soft_end (take (end_len rest) rest)) (signed c rest is ∙ ap (λ b. cond b (Some (soft_end (take (end_len rest) rest))) (escape_at rest)) yes)
      ∙ ap (λ n. octets_of_pieces (pieces_of (drop n rest))) len

  pub escape_first : (b : ℕ) → nat_lt 0 (end_len rest) ≡ false → 2 ≤ length rest → hex_octet (slice_index rest 0) (slice_index rest 1) ≡ Some b
      → octets_of_pieces (pieces_of (c ∷ rest)) ≡ b ∷ octets_of_pieces (pieces_of (drop 2 rest))
  escape_first b no_end long hex =
      sequence_first c rest (escape (get_or rest 0 0) (get_or rest 1 0)) (signed c rest is ∙ ap (λ b. cond b (Some (soft_end (take (end_len rest) rest))) (escape_at rest)) no_end ∙ escape_there rest b long hex)
      ∙ ap (λ found. option_to_list found ++ octets_of_pieces (pieces_of (drop 2 rest))) hex

  -- an `=` that begins no sequence stays
  pub sign_first : nat_lt 0 (end_len rest) ≡ false → escape_at rest ≡ None → octets_of_pieces (pieces_of (c ∷ rest)) ≡ c ∷ octets_of_pieces (pieces_of rest)
  sign_first no_end none = octet_first c rest (signed c rest is ∙ ap (λ b. cond b (Some (soft_end (take (end_len rest) rest))) (escape_at rest)) no_end ∙ none)

-- BLANKS

-- the blanks at the start that stay
abbrev pub stretch : List ℕ → List ℕ
stretch text = cond (leads_to_end text) [] (take (prefix_len is_blank text) text)

cond-same : {X : Type 0} (b : Bool) (x : X) → cond b x x ≡ x
cond-same true x = refl
cond-same false x = refl

module _ (c : ℕ) (rest : List ℕ) (blank : is_blank c ≡ true) where
  count : prefix_len is_blank (c ∷ rest) ≡ suc (prefix_len is_blank rest)
  count = ap (λ b. cond b (1 + prefix_len is_blank rest) 0) blank ∙ (let e : 1 + prefix_len is_blank rest ≡ suc (prefix_len is_blank rest) = omega arith in e)

  front : take (prefix_len is_blank (c ∷ rest)) (c ∷ rest) ≡ c ∷ take (prefix_len is_blank rest) rest
  front = ap (λ n. take n (c ∷ rest)) count

  back : drop (prefix_len is_blank (c ∷ rest)) (c ∷ rest) ≡ drop (prefix_len is_blank rest) rest
  back = ap (λ n. drop n (c ∷ rest)) count

  leads : leads_to_end (c ∷ rest) ≡ leads_to_end rest
  leads = ap is_at_end back

  blank_first : (b : Bool) → leads_to_end rest ≡ b → without_padding rest ≡ stretch rest ++ without_padding (drop (prefix_len is_blank rest) rest)
      → without_padding (c ∷ rest) ≡ stretch (c ∷ rest) ++ without_padding (drop (prefix_len is_blank (c ∷ rest)) (c ∷ rest))
  unfolding without_padding
  blank_first true ends so =
      ap (λ x. cond (x && leads_to_end rest) (without_padding rest) (c ∷ without_padding rest)) blank
      ∙ ap (λ x. cond x (without_padding rest) (c ∷ without_padding rest)) ends
      ∙ so ∙ ap (λ x. cond x [] (take (prefix_len is_blank rest) rest) ++ without_padding (drop (prefix_len is_blank rest) rest)) ends
      ∙ ap without_padding (sym back)
      ∙ sym (ap (λ x. cond x [] (take (prefix_len is_blank (c ∷ rest)) (c ∷ rest)) ++ without_padding (drop (prefix_len is_blank (c ∷ rest)) (c ∷ rest))) (leads ∙ ends))
  blank_first false inner so =
      ap (λ x. cond (x && leads_to_end rest) (without_padding rest) (c ∷ without_padding rest)) blank
      ∙ ap (λ x. cond x (without_padding rest) (c ∷ without_padding rest)) inner
      ∙ ap (λ x. c ∷ x) (so ∙ ap (λ x. cond x [] (take (prefix_len is_blank rest) rest) ++ without_padding (drop (prefix_len is_blank rest) rest)) inner)
      ∙ ap (λ x. (c ∷ take (prefix_len is_blank rest) rest) ++ without_padding x) (sym back)
      ∙ ap (λ x. x ++ without_padding (drop (prefix_len is_blank (c ∷ rest)) (c ∷ rest))) (sym front)
      ∙ sym (ap (λ x. cond x [] (take (prefix_len is_blank (c ∷ rest)) (c ∷ rest)) ++ without_padding (drop (prefix_len is_blank (c ∷ rest)) (c ∷ rest))) (leads ∙ inner))

other_first : (c : ℕ) (rest : List ℕ) (b : Bool) → leads_to_end (c ∷ rest) ≡ b → is_blank c ≡ false → without_padding (c ∷ rest) ≡ stretch (c ∷ rest) ++ without_padding (drop (prefix_len is_blank (c ∷ rest)) (c ∷ rest))
other_first c rest b is other =
    let none : prefix_len is_blank (c ∷ rest) ≡ 0 = ap (λ b. cond b (1 + prefix_len is_blank rest) 0) other in
    let empty : stretch (c ∷ rest) ≡ [] = ap (λ n. cond (leads_to_end (c ∷ rest)) [] (take n (c ∷ rest))) none ∙ cond-same (leads_to_end (c ∷ rest)) [] in
    sym (ap (λ x. x ++ without_padding (drop (prefix_len is_blank (c ∷ rest)) (c ∷ rest))) empty ∙ ap (λ n. without_padding (drop n (c ∷ rest))) none)

-- blanks at the start go where a line end or the end of the text follows them, and else stay
pub blanks_front : (text : List ℕ) → without_padding text ≡ stretch text ++ without_padding (drop (prefix_len is_blank text) text)
unfolding without_padding
blanks_front [] = refl
blanks_front (c ∷ rest) = by_test (is_blank c) refl (blanks_front rest)
  where
    by_test : (b : Bool) → is_blank c ≡ b → without_padding rest ≡ stretch rest ++ without_padding (drop (prefix_len is_blank rest) rest) → without_padding (c ∷ rest) ≡ stretch (c ∷ rest) ++ without_padding (drop (prefix_len is_blank (c ∷ rest)) (c ∷ rest))
    by_test true is so = blank_first c rest is (leads_to_end rest) refl so
    by_test false is so = other_first c rest (leads_to_end (c ∷ rest)) refl is

pub octet_front : (c : ℕ) (rest : List ℕ) → is_blank c ≡ false → without_padding (c ∷ rest) ≡ c ∷ without_padding rest
unfolding without_padding
octet_front c rest other = ap (λ b. cond (b && leads_to_end rest) (without_padding rest) (c ∷ without_padding rest)) other

-- where no blank stands at the start, the first octet stays
pub first_stays : (text : List ℕ) → 0 < length text → prefix_len is_blank text ≡ 0 → without_padding text ≡ get_or text 0 0 ∷ without_padding (take (length text - 1) (drop 1 text))
first_stays [] some none = absurd (omega (arith, some))
first_stays (c ∷ rest) some none = by_test (is_blank c) refl
  where
    by_test : (b : Bool) → is_blank c ≡ b → without_padding (c ∷ rest) ≡ c ∷ without_padding (take (length (c ∷ rest) - 1) rest)
    by_test true is = let more : suc (prefix_len is_blank rest) ≡ 0 = sym (count c rest is) ∙ none in absurd (omega (arith, more))
    by_test false is = octet_front c rest is ∙ ap (λ x. c ∷ without_padding x) (sym (take_all (length (c ∷ rest) - 1) rest (omega arith)))

-- NOTHING

pub nothing_padded : (text : List ℕ) → length text ≡ 0 → without_padding text ≡ []
unfolding without_padding
nothing_padded [] none = refl
nothing_padded (c ∷ rest) none = absurd (omega (arith, none))

pub nothing_quoted : (text : List ℕ) → length text < 1 → octets_of_pieces (pieces_of text) ≡ []
unfolding octets_of_pieces pieces_from
nothing_quoted [] none = refl
nothing_quoted (c ∷ rest) none = absurd (omega (arith, none))
