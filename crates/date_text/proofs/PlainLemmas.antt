-- Texts without comments and semicolons, and octets of words.
use Rattle.std.proofs.Common.{◌≡◌, ℕ, zero, suc, ◌-◌, ◌<◌, Bool, true, false, cond, not, ◌&&◌, ◌||◌, ◌==◌, List, [], ◌∷◌, ◌++◌, length, get_or, drop, Some, None, refl, ap, ◌∙◌, arith}
use Rattle.std.specs.List.{after_last, list_all, suffix_len}
use Rattle.std.specs.Option.{option_and_then}
use Rattle.std.proofs.lemmas.Bool.{and_from, and_parts}
use Rattle.std.proofs.lemmas.Bool.Decides.{nat_tests}
use Rattle.std.proofs.lemmas.List.Folds.{list_all-append}
use Rattle.std.proofs.lemmas.List.Sums.{suffix_len_is}
use Rattle.octets.specs.Octet.{is_digit, is_white, octet_of}
use Rattle.date_text.specs.Number.{digit}
use Rattle.date_text.specs.Reading.{date_in, moment_read}
use Rattle.date_text.specs.Words.{is_joined, is_letter, kept, without_comments}
use Rattle.structured_text.specs.declared.state.LexerState.TheVariants.{Outside}
use Rattle.structured_text.specs.Structure.{comments_alone, is_closed}
use Rattle.date_text.proofs.WordLemmas.{closed_word, kept_word, no_white, not_both, of_word}

-- TEXTS

-- an octet that is no `;` and begins no comment
abbrev pub is_plain : ℕ → Bool
is_plain c = not (c == octet_of ";") && not (c == octet_of "(")

pub not_is : (b : Bool) → not b ≡ true → b ≡ false
not_is true h = absurd cc
not_is false h = refl

pub plain_first : (c : ℕ) (rest : List ℕ) → list_all is_plain (c ∷ rest) ≡ true → ((c == octet_of "(") ≡ false) × (list_all is_plain rest ≡ true)
plain_first c rest h =
    let parts = and_parts (is_plain c) (list_all is_plain rest) h in
    let both = and_parts (not (c == octet_of ";")) (not (c == octet_of "(")) parts.0 in
    (not_is (c == octet_of "(") both.1, parts.1)

pub plain_closed : (text : List ℕ) → list_all is_plain text ≡ true → is_closed comments_alone Outside text ≡ true
unfolding is_closed
plain_closed [] h = refl
plain_closed (c ∷ rest) h = let parts = plain_first c rest h in closed_word c rest parts.0 ∙ plain_closed rest parts.1

pub plain_kept : (text : List ℕ) → list_all is_plain text ≡ true → kept Outside text ≡ text
unfolding kept
plain_kept [] h = refl
plain_kept (c ∷ rest) h = let parts = plain_first c rest h in kept_word c rest parts.0 ∙ ap (λ more. c ∷ more) (plain_kept rest parts.1)

pub plain_at : (text : List ℕ) (k : ℕ) → list_all is_plain text ≡ true → k < length text → not (get_or text k 0 == octet_of ";") ≡ true
plain_at [] k h small = absurd (omega arith)
plain_at (c ∷ rest) zero h small = (and_parts (not (c == octet_of ";")) (not (c == octet_of "(")) (and_parts (is_plain c) (list_all is_plain rest) h).0).0
plain_at (c ∷ rest) (suc k) h small = plain_at rest k (plain_first c rest h).1 (omega arith)

pub plain_last : (text : List ℕ) → list_all is_plain text ≡ true → after_last (λ c. c == octet_of ";") text ≡ text
plain_last text h =
    let count : suffix_len (λ (c : ℕ). not (c == octet_of ";")) text ≡ length text - 0 = suffix_len_is (λ (c : ℕ). not (c == octet_of ";")) text 0 0 (omega arith) (λ k _ small. plain_at text k h small) (λ none. absurd (omega arith)) in
    let none : length text - suffix_len (λ (c : ℕ). not (c == octet_of ";")) text ≡ 0 = omega arith in
    ap (λ n. drop n text) none

-- a plain text is read by its words
pub date_in-plain : (text : List ℕ) → list_all is_plain text ≡ true → date_in text ≡ moment_read text
date_in-plain text h =
    ap (λ one. option_and_then moment_read (without_comments one)) (plain_last text h)
    ∙ ap (λ closed. option_and_then moment_read (cond closed (Some (kept Outside text)) None)) (plain_closed text h)
    ∙ ap moment_read (plain_kept text h)

pub plain_append : (a b : List ℕ) → list_all is_plain a ≡ true → list_all is_plain b ≡ true → list_all is_plain (a ++ b) ≡ true
plain_append a b first second = list_all-append is_plain a b ∙ and_from (list_all is_plain a) (list_all is_plain b) first second

-- OCTETS

pub digit_is : (n : ℕ) → n < 10 → is_digit (digit n) ≡ true
digit_is n h = grind (arith, nat_tests)

pub digit_plain : (c : ℕ) → is_digit c ≡ true → is_plain c ≡ true
digit_plain c h = grind (arith, nat_tests)

pub letter_plain : (c : ℕ) → is_letter c ≡ true → is_plain c ≡ true
letter_plain c h = grind (arith, nat_tests)

pub or_left : (a b : Bool) → a ≡ true → (a || b) ≡ true
or_left true b h = refl
or_left false b h = absurd cc

pub or_right : (a b : Bool) → b ≡ true → (a || b) ≡ true
or_right true b h = refl
or_right false b h = h

pub letter_not_white : (c : ℕ) → is_letter c ≡ true → is_white c ≡ false
letter_not_white c h = (no_white (is_white c) (c == octet_of "(") (of_word c (or_left (is_letter c) (is_digit c) h))).0

pub digit_not_white : (c : ℕ) → is_digit c ≡ true → is_white c ≡ false
digit_not_white c h = (no_white (is_white c) (c == octet_of "(") (of_word c (or_right (is_letter c) (is_digit c) h))).0

pub letters_joined : (c d : ℕ) → is_letter c ≡ true → is_letter d ≡ true → is_joined c d ≡ true
letters_joined c d one two = or_left (is_letter c && is_letter d) (is_digit c && is_digit d) (and_from (is_letter c) (is_letter d) one two)

pub digits_joined : (c d : ℕ) → is_digit c ≡ true → is_digit d ≡ true → is_joined c d ≡ true
digits_joined c d one two = or_right (is_letter c && is_letter d) (is_digit c && is_digit d) (and_from (is_digit c) (is_digit d) one two)

pub apart_bools : (lc dc ld dd : Bool) → (lc && dc) ≡ false → (lc || dc) ≡ true → (lc ≡ true → ld ≡ false) → (dc ≡ true → dd ≡ false) → ((lc && ld) || (dc && dd)) ≡ false
apart_bools true true ld dd both is l d = absurd cc
apart_bools true false ld dd both is l d = ap (λ b. b || false) (l refl)
apart_bools false true ld dd both is l d = d refl
apart_bools false false ld dd both is l d = absurd cc

never : (a b : Bool) → (a && b) ≡ false → a ≡ true → b ≡ true → ⊥
never true true h one two = cc
never true false h one two = cc
never false b h one two = cc

pub letter_apart : (c d : ℕ) → is_letter c ≡ true → is_letter d ≡ false → is_joined c d ≡ false
letter_apart c d one two = apart_bools (is_letter c) (is_digit c) (is_letter d) (is_digit d) (not_both c) (or_left (is_letter c) (is_digit c) one) (λ _. two) (λ also. absurd (never (is_letter c) (is_digit c) (not_both c) one also))

pub digit_apart : (c d : ℕ) → is_digit c ≡ true → is_digit d ≡ false → is_joined c d ≡ false
digit_apart c d one two = apart_bools (is_letter c) (is_digit c) (is_letter d) (is_digit d) (not_both c) (or_right (is_letter c) (is_digit c) one) (λ also. absurd (never (is_letter c) (is_digit c) (not_both c) also one)) (λ _. two)
