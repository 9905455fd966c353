-- Comments and words, octet by octet.
use Rattle.std.proofs.Common.{add-one, drop-cons, ◌≡◌, ℕ, suc, ◌+◌, ◌-◌, ◌<◌, ◌≤◌, Bool, true, false, cond, not, ◌&&◌, ◌||◌, ◌==◌, List, [], ◌∷◌, length, get_or, take, drop, refl, sym, subst, ap, ◌∙◌, arith}
use native.Mathlib.Numerals.{unary_clauses}
use Rattle.std.proofs.Math.Seq.{take-length}
use Rattle.std.proofs.lemmas.Bool.Decides.{nat_tests}
use Rattle.std.proofs.lemmas.Grind.{common_steps}
use Rattle.std.proofs.lemmas.List.Sums.{prefix_len-le-length}
use Rattle.std.specs.List.{onto_first, prefix_len}
use Rattle.octets.specs.Octet.{is_digit, is_white, octet_of}
use Rattle.date_text.specs.Words.{is_joined, is_joined_to, is_letter, kept, words_of}
use Rattle.structured_text.specs.declared.state.LexerState.{LexerState}
use Rattle.structured_text.specs.declared.state.LexerState.TheVariants.{EscapedInComment, EscapedInLiteral, EscapedInString, InComment, InLiteral, InString, Outside}
use Rattle.structured_text.specs.Structure.{after_octet, comments_alone, is_closed, is_outside}
use Rattle.date_text.specs.view.Words.{begins_word, closes, is_of_word, is_word_at, words_from, words_in}

-- the words of a text by its first octet

pub words_white : (x : ℕ) (rest : List ℕ) → is_white x ≡ true → words_of (x ∷ rest) ≡ words_of rest
unfolding words_of
words_white x rest white = ap (λ w. cond w (words_of rest) (cond (is_joined_to x rest) (onto_first x (words_of rest)) ((x ∷ []) ∷ words_of rest))) white

pub words_alone : (x : ℕ) (rest : List ℕ) → is_white x ≡ false → is_joined_to x rest ≡ false → words_of (x ∷ rest) ≡ (x ∷ []) ∷ words_of rest
unfolding words_of
words_alone x rest white apart =
    ap (λ w. cond w (words_of rest) (cond (is_joined_to x rest) (onto_first x (words_of rest)) ((x ∷ []) ∷ words_of rest))) white
    ∙ ap (λ j. cond j (onto_first x (words_of rest)) ((x ∷ []) ∷ words_of rest)) apart

pub words_joined : (x : ℕ) (rest : List ℕ) → is_white x ≡ false → is_joined_to x rest ≡ true → words_of (x ∷ rest) ≡ onto_first x (words_of rest)
unfolding words_of
words_joined x rest white joined =
    ap (λ w. cond w (words_of rest) (cond (is_joined_to x rest) (onto_first x (words_of rest)) ((x ∷ []) ∷ words_of rest))) white
    ∙ ap (λ j. cond j (onto_first x (words_of rest)) ((x ∷ []) ∷ words_of rest)) joined

-- an octet outside comments, which begins one or doesn't

white_of : (w p : Bool) → p ≡ false → (not w && not p) ≡ false → w ≡ true
white_of true p none fails = refl
white_of false true none fails = sym none
white_of false false none fails = sym fails

passed_outside : (c : ℕ) (rest : List ℕ) (paren : Bool) → (c == octet_of "(") ≡ paren → is_of_word c ≡ false → words_of (kept (cond paren (InComment 0) Outside) rest) ≡ words_of (cond paren (octet_of " ") c ∷ kept (cond paren (InComment 0) Outside) rest)
passed_outside c rest true is fails = sym (words_white (octet_of " ") (kept (InComment 0) rest) refl)
passed_outside c rest false is fails = sym (words_white c (kept Outside rest) (white_of (is_white c) (c == octet_of "(") is fails))

-- an octet that is of no word changes no words
pub passed_words : (spot : LexerState) (c : ℕ) (rest : List ℕ) → is_word_at spot c ≡ false → words_from (after_octet comments_alone spot c) rest ≡ words_from spot (c ∷ rest)
unfolding kept
passed_words Outside c rest fails = passed_outside c rest (c == octet_of "(") refl fails
passed_words (InComment others) c rest fails = refl
passed_words (EscapedInComment others) c rest fails = refl
passed_words InString c rest fails = refl
passed_words EscapedInString c rest fails = refl
passed_words InLiteral c rest fails = refl
passed_words EscapedInLiteral c rest fails = refl

pub passed_closed : (spot : LexerState) (c : ℕ) (rest : List ℕ) → is_closed comments_alone (after_octet comments_alone spot c) rest ≡ is_closed comments_alone spot (c ∷ rest)
unfolding is_closed
passed_closed spot c rest = refl

-- at the end of a text whose comments are closed, no comment is open
pub ended_outside : (spot : LexerState) (text : List ℕ) → length text ≡ 0 → is_closed comments_alone spot text ≡ true → (spot ≡ Outside) × (begins_word text ≡ true)
unfolding is_closed
ended_outside Outside [] none closed = (refl, refl)
ended_outside (InComment others) [] none closed = absurd cc
ended_outside (EscapedInComment others) [] none closed = absurd cc
ended_outside InString [] none closed = absurd cc
ended_outside EscapedInString [] none closed = absurd cc
ended_outside InLiteral [] none closed = absurd cc
ended_outside EscapedInLiteral [] none closed = absurd cc
ended_outside spot (c ∷ rest) none closed = absurd (omega arith)

pub outside_is : (spot : LexerState) (c : ℕ) → is_word_at spot c ≡ true → (spot ≡ Outside) × (is_of_word c ≡ true)
outside_is Outside c is = (refl, is)
outside_is (InComment others) c is = absurd cc
outside_is (EscapedInComment others) c is = absurd cc
outside_is InString c is = absurd cc
outside_is EscapedInString c is = absurd cc
outside_is InLiteral c is = absurd cc
outside_is EscapedInLiteral c is = absurd cc

-- a text is its first octet and the rest
pub cons_first : (text : List ℕ) → 0 < length text → text ≡ get_or text 0 0 ∷ take (length text - 1) (drop 1 text)
cons_first [] some = absurd (omega arith)
cons_first (c ∷ rest) some = simp unary_clauses (ap (λ further. c ∷ further) (sym (take-length rest)))

-- WORDS

pub no_white : (w p : Bool) → (not w && not p) ≡ true → (w ≡ false) × (p ≡ false)
no_white true p is = absurd cc
no_white false true is = absurd cc
no_white false false is = (refl, refl)

pub kept_word : (c : ℕ) (rest : List ℕ) → (c == octet_of "(") ≡ false → kept Outside (c ∷ rest) ≡ c ∷ kept Outside rest
unfolding kept
kept_word c rest none = ap (λ p. cond p (octet_of " ") c ∷ kept (cond p (InComment 0) Outside) rest) none

pub closed_word : (c : ℕ) (rest : List ℕ) → (c == octet_of "(") ≡ false → is_closed comments_alone Outside (c ∷ rest) ≡ is_closed comments_alone Outside rest
unfolding is_closed
closed_word c rest none = ap (λ p. is_closed comments_alone (cond p (InComment 0) Outside) rest) none

pub not_both : (c : ℕ) → (is_letter c && is_digit c) ≡ false
not_both c = grind (arith, nat_tests)

pub of_word : (c : ℕ) → (is_letter c || is_digit c) ≡ true → is_of_word c ≡ true
of_word c is = grind (arith, nat_tests)

either : (lc dc ld dd : Bool) → ((lc && ld) || (dc && dd)) ≡ true → (ld || dd) ≡ true
either true true true dd is = refl
either true true false dd is = is
either true false true dd is = refl
either true false false dd is = absurd cc
either false true true dd is = refl
either false true false dd is = is
either false false ld dd is = absurd cc

joined_of_word : (c d : ℕ) → is_joined c d ≡ true → is_of_word d ≡ true
joined_of_word c d is = of_word d (either (is_letter c) (is_digit c) (is_letter d) (is_digit d) is)

alike : (lc dc ld dd le de : Bool) → (lc && dc) ≡ false → (ld && dd) ≡ false → ((lc && ld) || (dc && dd)) ≡ true → ((lc && le) || (dc && de)) ≡ ((ld && le) || (dd && de))
alike true true ld dd le de one two is = absurd cc
alike lc dc true true le de one two is = absurd cc
alike true false true false le de one two is = refl
alike true false false dd le de one two is = absurd cc
alike false true false true le de one two is = refl
alike false true true false le de one two is = absurd cc
alike false true false false le de one two is = absurd cc
alike false false ld dd le de one two is = absurd cc

joined_same : (c d e : ℕ) → is_joined c d ≡ true → is_joined c e ≡ is_joined d e
joined_same c d e is = alike (is_letter c) (is_digit c) (is_letter d) (is_digit d) (is_letter e) (is_digit e) (not_both c) (not_both d) is

prefix_same : (p q : ℕ → Bool) → ((e : ℕ) → p e ≡ q e) → (xs : List ℕ) → prefix_len p xs ≡ prefix_len q xs
prefix_same p q same [] = refl
prefix_same p q same (x ∷ xs) = ap (λ b. cond b (1 + prefix_len p xs) 0) (same x) ∙ ap (λ n. cond (q x) (1 + n) 0) (prefix_same p q same xs)

no_joined : (lc dc : Bool) → ((lc && false) || (dc && false)) ≡ false
no_joined true true = refl
no_joined true false = refl
no_joined false true = refl
no_joined false false = refl

apart_kept : (c d : ℕ) (paren : Bool) → is_joined c d ≡ false → is_joined c (cond paren (octet_of " ") d) ≡ false
apart_kept c d true apart = no_joined (is_letter c) (is_digit c)
apart_kept c d false apart = apart

apart_first : (c d : ℕ) (rest : List ℕ) → is_joined c d ≡ false → is_joined_to c (kept Outside (d ∷ rest)) ≡ false
unfolding kept
apart_first c d rest apart = apart_kept c d (d == octet_of "(") apart

-- how many octets a word has after its first
abbrev pub more : ℕ → List ℕ → ℕ
more c rest = prefix_len (is_joined c) rest

-- the first word of a text that begins with one
abbrev IsFirstWord : ℕ → List ℕ → ℕ → Type 0
IsFirstWord c rest n = (words_in (c ∷ rest) ≡ (c ∷ take n rest) ∷ words_in (drop n rest)) × (closes (drop n rest) ≡ closes (c ∷ rest))

one_more : (n : ℕ) → 1 + n ≡ suc n
one_more n = omega arith

first_alone : (c d : ℕ) (rest : List ℕ) → is_of_word c ≡ true → is_joined c d ≡ false → IsFirstWord c (d ∷ rest) 0
first_alone c d rest is apart =
    let plain = no_white (is_white c) (c == octet_of "(") is in (
      ap words_of (kept_word c (d ∷ rest) plain.1) ∙ words_alone c (kept Outside (d ∷ rest)) plain.0 (apart_first c d rest apart),
      sym (closed_word c (d ∷ rest) plain.1),
    )

first_joined : (c d : ℕ) (rest : List ℕ) (n : ℕ) → is_of_word c ≡ true → is_joined c d ≡ true → IsFirstWord d rest n → IsFirstWord c (d ∷ rest) (suc n)
first_joined c d rest n is joined first =
    let plain = no_white (is_white c) (c == octet_of "(") is in
    let next = no_white (is_white d) (d == octet_of "(") (joined_of_word c d joined) in
    let to : is_joined_to c (kept Outside (d ∷ rest)) ≡ true = ap (is_joined_to c) (kept_word d rest next.1) ∙ joined in (
      ap words_of (kept_word c (d ∷ rest) plain.1) ∙ words_joined c (kept Outside (d ∷ rest)) plain.0 to ∙ ap (onto_first c) first.0,
      first.1 ∙ sym (closed_word c (d ∷ rest) plain.1),
    )

first_step : (c d : ℕ) (rest : List ℕ) (joined : Bool) → is_joined c d ≡ joined → is_of_word c ≡ true → (is_joined c d ≡ true → IsFirstWord d rest (more d rest)) → IsFirstWord c (d ∷ rest) (cond joined (1 + more c rest) 0)
first_step c d rest false e is further = first_alone c d rest is e
first_step c d rest true e is further =
    let same = prefix_same (is_joined c) (is_joined d) (λ other. joined_same c d other e) rest in
    subst (IsFirstWord c (d ∷ rest)) (ap suc (sym same) ∙ sym (one_more (more c rest))) (first_joined c d rest (more d rest) is e (further e))

pub first_word : (c : ℕ) (rest : List ℕ) → is_of_word c ≡ true → IsFirstWord c rest (more c rest)
unfolding kept words_of is_closed
first_word c [] is =
    let plain = no_white (is_white c) (c == octet_of "(") is in
    (ap words_of (kept_word c [] plain.1) ∙ words_alone c [] plain.0 refl, sym (closed_word c [] plain.1))
first_word c (d ∷ rest) is = first_step c d rest (is_joined c d) refl is (λ joined. first_word d rest (joined_of_word c d joined))

-- the first word of a text that begins with one, by how many octets follow the word's first
pub word_cut : (text : List ℕ) (n : ℕ) → 0 < length text → begins_word text ≡ true → n ≡ more (get_or text 0 0) (take (length text - 1) (drop 1 text)) → (words_in text ≡ take (1 + n) text ∷ words_in (drop (1 + n) text)) × (closes (drop (1 + n) text) ≡ closes text)
word_cut [] n some begins is = absurd (omega arith)
word_cut (c ∷ rest) n some begins is =
    let whole : take (length (c ∷ rest) - 1) rest ≡ rest = simp unary_clauses (take-length rest) in
    let count : more c rest ≡ n = sym (is ∙ ap (more c) whole) in
    rw (one_more n) (subst (IsFirstWord c rest) count (first_word c rest begins))

-- a text that begins with a word, but has no octet, has no words
pub no_words : (text : List ℕ) → length text ≡ 0 → words_in text ≡ []
unfolding kept words_of
no_words [] none = refl
no_words (c ∷ rest) none = absurd (omega arith)

-- the first word isn't longer than the text
pub more_fits : (text : List ℕ) (n : ℕ) → 0 < length text → n ≡ more (get_or text 0 0) (take (length text - 1) (drop 1 text)) → 1 + n ≤ length text
more_fits [] n some is = absurd (omega arith)
more_fits (c ∷ rest) n some is =
    let whole : take (length (c ∷ rest) - 1) rest ≡ rest = simp unary_clauses (take-length rest) in
    let count : n ≡ more c rest = is ∙ ap (more c) whole in
    omega (arith, prefix_len-le-length (is_joined c) rest)
