-- A text is found to begin with a sequence exactly where one is written there.
use Rattle.std.proofs.Common.{◌≡◌, ℕ, zero, suc, ◌+◌, ◌<◌, Bool, true, false, ◌&&◌, ◌||◌, ◌==◌, cond, List, [], ◌∷◌, ◌++◌, length, map, take, drop, Option, None, Some, refl, sym, ◌∙◌, ap, subst, append_assoc, length-append, codes, inl, inr, arith}
use Rattle.std.specs.Char.{to_ascii_lowercase}
use Rattle.std.specs.List.{flat_map, list_all, prefix_len}
use Rattle.std.proofs.Math.Seq.{drop-append_seam, take-append_seam}
use Rattle.std.proofs.lemmas.Bool.{eqb-true, or_cases, ltb-true}
use Rattle.std.proofs.lemmas.List.{length-map, take-append-drop}
use Rattle.std.proofs.lemmas.List.Folds.{list_all-append}
use Rattle.std.specs.Str.{bytes_eq}
use lib.Pointwise.{bytes_decides}
use Rattle.octets.proofs.Both.{both, first_of_both, last_of_both}
use Rattle.octets.specs.Octet.{is_blank, is_filled, octet_of}
use Rattle.text_cut.specs.Scan.{FindsSequences}
use Rattle.encoded_characters.specs.Cut.{IsLegalEncoded}
use Rattle.encoded_characters.specs.Scan.{before_brace, after_run, after_word, by_word, further, inside_of, may_stand, run, sequence_at, word_at}
use Rattle.encoded_characters.specs.Sequence.{InsideSequence, Item, EncodedSequence, are_blanks, are_digits, are_items, inside_written, is_hex, is_hex_digit, is_inside, is_item, is_legal, is_unicode, item_written, written}
use Rattle.encoded_characters.specs.view.Sequence.{item_before}
use Rattle.encoded_characters.proofs.Items.{item_run, last_run, no_digit, not_hex, written_again}

-- blanks aren't digits, and both may stand between `:` and `}`

blank_apart : (c : ℕ) → is_blank c ≡ true → not_hex c ≡ true
blank_apart c is = elim (or_cases (c == octet_of " ") (c == octet_of "\t") is) [
  | inl space ↦ ap not_hex (eqb-true c (octet_of " ") space)
  | inr tab ↦ ap not_hex (eqb-true c (octet_of "\t") tab)
]

blank_stands : (c : ℕ) → is_blank c ≡ true → may_stand c ≡ true
blank_stands c is = elim (or_cases (c == octet_of " ") (c == octet_of "\t") is) [
  | inl space ↦ ap may_stand (eqb-true c (octet_of " ") space)
  | inr tab ↦ ap may_stand (eqb-true c (octet_of "\t") tab)
]

blanks_step : (p : ℕ → Bool) (c d : ℕ) (rest : List ℕ) (b : Bool) → ((c : ℕ) → is_blank c ≡ true → p c ≡ true) → p (octet_of "\r") ≡ true → p (octet_of "\n") ≡ true → is_blank c ≡ b
    → (are_blanks (d ∷ rest) ≡ true → list_all p (d ∷ rest) ≡ true) → (are_blanks rest ≡ true → list_all p rest ≡ true)
    → cond b (are_blanks (d ∷ rest)) ((c == octet_of "\r" && d == octet_of "\n") && are_blanks rest) ≡ true → list_all p (c ∷ d ∷ rest) ≡ true
blanks_step p c d rest true blank return feed is next after are = both (p c) (list_all p (d ∷ rest)) (blank c is) (next are)
blanks_step p c d rest false blank return feed is next after are =
    let ends = first_of_both (c == octet_of "\r" && d == octet_of "\n") (are_blanks rest) are in
    let first = ap p (eqb-true c (octet_of "\r") (first_of_both (c == octet_of "\r") (d == octet_of "\n") ends)) ∙ return in
    let second = ap p (eqb-true d (octet_of "\n") (last_of_both (c == octet_of "\r") (d == octet_of "\n") ends)) ∙ feed in
    both (p c) (list_all p (d ∷ rest)) first (both (p d) (list_all p rest) second (after (last_of_both (c == octet_of "\r" && d == octet_of "\n") (are_blanks rest) are)))

blanks_all : (p : ℕ → Bool) → ((c : ℕ) → is_blank c ≡ true → p c ≡ true) → p (octet_of "\r") ≡ true → p (octet_of "\n") ≡ true → (gap : List ℕ) → are_blanks gap ≡ true → list_all p gap ≡ true
blanks_all p blank return feed [] are = refl
blanks_all p blank return feed (c ∷ []) are = both (p c) true (blank c are) refl
blanks_all p blank return feed (c ∷ d ∷ rest) are =
    blanks_step p c d rest (is_blank c) blank return feed refl (λ next. blanks_all p blank return feed (d ∷ rest) next) (λ next. blanks_all p blank return feed rest next) are

blanks_apart : (gap : List ℕ) → are_blanks gap ≡ true → list_all not_hex gap ≡ true
blanks_apart gap are = blanks_all not_hex blank_apart refl refl gap are

blanks_stand : (gap : List ℕ) → are_blanks gap ≡ true → list_all may_stand gap ≡ true
blanks_stand gap are = blanks_all may_stand blank_stands refl refl gap are

or_left : (a b : Bool) → a ≡ true → (a || b) ≡ true
or_left a b is = rw is refl

digits_stand : (digits : List ℕ) → list_all is_hex_digit digits ≡ true → list_all may_stand digits ≡ true
digits_stand [] are = refl
digits_stand (c ∷ digits) are =
    both (may_stand c) (list_all may_stand digits) (or_left (is_hex_digit c) _ (first_of_both (is_hex_digit c) (list_all is_hex_digit digits) are))
    (digits_stand digits (last_of_both (is_hex_digit c) (list_all is_hex_digit digits) are))

-- the parts of an item

some_octets : (octets : List ℕ) → is_filled octets ≡ true → 0 < length octets
some_octets octets is = ltb-true 0 (length octets) is

filled_digits : (hex : Bool) (item : Item) → is_item hex item ≡ true → 0 < length item.digits
filled_digits hex item is =
    some_octets item.digits (first_of_both (is_filled item.digits) (list_all is_hex_digit item.digits) (first_of_both (is_filled item.digits && list_all is_hex_digit item.digits) _ (last_of_both (are_blanks item.blanks) (are_digits hex item.digits) is)))

all_digits : (hex : Bool) (item : Item) → is_item hex item ≡ true → list_all is_hex_digit item.digits ≡ true
all_digits hex item is =
    last_of_both (is_filled item.digits) (list_all is_hex_digit item.digits) (first_of_both (is_filled item.digits && list_all is_hex_digit item.digits) _ (last_of_both (are_blanks item.blanks) (are_digits hex item.digits) is))

gap_blanks : (hex : Bool) (item : Item) → is_item hex item ≡ true → are_blanks item.blanks ≡ true
gap_blanks hex item is = first_of_both (are_blanks item.blanks) (are_digits hex item.digits) is

-- items as they are written are read again

front_apart : (gap rest : List ℕ) → is_filled gap ≡ true → list_all not_hex gap ≡ true → no_digit (gap ++ rest) ≡ true
front_apart [] rest some are = absurd (omega (arith, some_octets [] some))
front_apart (c ∷ gap) rest some are = first_of_both (not_hex c) (list_all not_hex gap) are

last_apart : (last : List ℕ) → list_all not_hex last ≡ true → no_digit last ≡ true
last_apart [] are = refl
last_apart (c ∷ last) are = first_of_both (not_hex c) (list_all not_hex last) are

items_written : (item : Item) (items : List Item) (last : List ℕ) → flat_map item_written (item ∷ items) ++ last ≡ item.blanks ++ (item.digits ++ (flat_map item_written items ++ last))
items_written item items last =
    append_assoc (item.blanks ++ item.digits) (flat_map item_written items) last ∙ append_assoc item.blanks item.digits (flat_map item_written items ++ last)

abbrev is_further : (hex : Bool) → Item → Bool
is_further hex item = is_filled item.blanks && is_item hex item

further_apart : (hex : Bool) (items : List Item) (last : List ℕ) → list_all (is_further hex) items ≡ true → are_blanks last ≡ true → no_digit (flat_map item_written items ++ last) ≡ true
further_apart hex [] last are blank = last_apart last (blanks_apart last blank)
further_apart hex (item ∷ items) last are blank =
    let here = first_of_both (is_further hex item) (list_all (is_further hex) items) are in
    let gap = blanks_apart item.blanks (gap_blanks hex item (last_of_both (is_filled item.blanks) (is_item hex item) here)) in
    ap no_digit (items_written item items last) ∙ front_apart item.blanks (item.digits ++ (flat_map item_written items ++ last)) (first_of_both (is_filled item.blanks) (is_item hex item) here) gap

one_item : (hex : Bool) (item : Item) (items : List Item) (last : List ℕ) → is_item hex item ≡ true → list_all (is_further hex) items ≡ true → are_blanks last ≡ true
    → inside_of (flat_map item_written items ++ last) ≡ record { items = items; last = last } → inside_of (flat_map item_written (item ∷ items) ++ last) ≡ record { items = item ∷ items; last = last }
one_item hex item items last here after blank is =
    ap inside_of (items_written item items last)
    ∙ item_run item.blanks item.digits (flat_map item_written items ++ last) (blanks_apart item.blanks (gap_blanks hex item here)) (filled_digits hex item here) (all_digits hex item here) (further_apart hex items last after blank)
    ∙ ap (item_before item) is

further_items : (hex : Bool) (items : List Item) (last : List ℕ) → list_all (is_further hex) items ≡ true → are_blanks last ≡ true → inside_of (flat_map item_written items ++ last) ≡ record { items = items; last = last }
further_items hex [] last are blank = last_run last (blanks_apart last blank)
further_items hex (item ∷ items) last are blank =
    let here = last_of_both (is_filled item.blanks) (is_item hex item) (first_of_both (is_further hex item) (list_all (is_further hex) items) are) in
    let after = last_of_both (is_further hex item) (list_all (is_further hex) items) are in
    one_item hex item items last here after blank (further_items hex items last after blank)

parts_read : (hex : Bool) (items : List Item) (last : List ℕ) → (are_items hex items && are_blanks last) ≡ true → inside_of (flat_map item_written items ++ last) ≡ record { items = items; last = last }
parts_read hex [] last legal = absurd cc
parts_read hex (item ∷ items) last legal =
    let are = first_of_both (is_item hex item && list_all (is_further hex) items) (are_blanks last) legal in
    let blank = last_of_both (is_item hex item && list_all (is_further hex) items) (are_blanks last) legal in
    let after = last_of_both (is_item hex item) (list_all (is_further hex) items) are in
    one_item hex item items last (first_of_both (is_item hex item) (list_all (is_further hex) items) are) after blank (further_items hex items last after blank)

inside_read : (hex : Bool) (inside : InsideSequence) → is_inside hex inside ≡ true → inside_of (inside_written inside) ≡ inside
inside_read hex inside legal = parts_read hex inside.items inside.last legal

item_stands : (hex : Bool) (item : Item) → is_item hex item ≡ true → list_all may_stand (item_written item) ≡ true
item_stands hex item is =
    list_all-append may_stand item.blanks item.digits
    ∙ both (list_all may_stand item.blanks) (list_all may_stand item.digits) (blanks_stand item.blanks (gap_blanks hex item is)) (digits_stand item.digits (all_digits hex item is))

further_stand : (hex : Bool) (items : List Item) → list_all (is_further hex) items ≡ true → list_all may_stand (flat_map item_written items) ≡ true
further_stand hex [] are = refl
further_stand hex (item ∷ items) are =
    let here = last_of_both (is_filled item.blanks) (is_item hex item) (first_of_both (is_further hex item) (list_all (is_further hex) items) are) in
    list_all-append may_stand (item_written item) (flat_map item_written items)
    ∙ both (list_all may_stand (item_written item)) (list_all may_stand (flat_map item_written items)) (item_stands hex item here)
    (further_stand hex items (last_of_both (is_further hex item) (list_all (is_further hex) items) are))

items_stand : (hex : Bool) (items : List Item) → are_items hex items ≡ true → list_all may_stand (flat_map item_written items) ≡ true
items_stand hex [] are = refl
items_stand hex (item ∷ items) are =
    list_all-append may_stand (item_written item) (flat_map item_written items)
    ∙ both (list_all may_stand (item_written item)) (list_all may_stand (flat_map item_written items)) (item_stands hex item (first_of_both (is_item hex item) (list_all (is_further hex) items) are))
    (further_stand hex items (last_of_both (is_item hex item) (list_all (is_further hex) items) are))

inside_stands : (hex : Bool) (inside : InsideSequence) → is_inside hex inside ≡ true → list_all may_stand (inside_written inside) ≡ true
inside_stands hex inside legal =
    list_all-append may_stand (flat_map item_written inside.items) inside.last
    ∙ both (list_all may_stand (flat_map item_written inside.items)) (list_all may_stand inside.last)
    (items_stand hex inside.items (first_of_both (are_items hex inside.items) (are_blanks inside.last) legal))
    (blanks_stand inside.last (last_of_both (are_items hex inside.items) (are_blanks inside.last) legal))

-- the octets between `:` and `}`

run_len : (octets rest : List ℕ) → list_all may_stand octets ≡ true → prefix_len may_stand (octets ++ octet_of "}" ∷ rest) ≡ length octets
run_len [] rest are = refl
run_len (c ∷ octets) rest are =
    let after = run_len octets rest (last_of_both (may_stand c) (list_all may_stand octets) are) in
    ap (λ b. cond b (1 + prefix_len may_stand (octets ++ octet_of "}" ∷ rest)) 0) (first_of_both (may_stand c) (list_all may_stand octets) are) ∙ omega arith

run-is : (octets rest : List ℕ) → list_all may_stand octets ≡ true → run (octets ++ octet_of "}" ∷ rest) ≡ octets
run-is octets rest are = ap (λ n. take n (octets ++ octet_of "}" ∷ rest)) (run_len octets rest are) ∙ take-append_seam octets (octet_of "}" ∷ rest)

after_run-is : (octets rest : List ℕ) → list_all may_stand octets ≡ true → after_run (octets ++ octet_of "}" ∷ rest) ≡ octet_of "}" ∷ rest
after_run-is octets rest are = ap (λ n. drop n (octets ++ octet_of "}" ∷ rest)) (run_len octets rest are) ∙ drop-append_seam octets (octet_of "}" ∷ rest)

run_rest : (octets : List ℕ) → run octets ++ after_run octets ≡ octets
run_rest octets = take-append-drop (prefix_len may_stand octets) octets

-- the word

abbrev is_word : List ℕ → Bool
is_word word = is_hex word || is_unicode word

same_length : (known word : List ℕ) → map to_ascii_lowercase known ≡ map to_ascii_lowercase word → length word ≡ length known
same_length known word same = sym (length-map word to_ascii_lowercase) ∙ sym (ap length same) ∙ length-map known to_ascii_lowercase

hex_length : (word : List ℕ) → is_hex word ≡ true → length word ≡ 3
hex_length word is = same_length (codes "hex") word ((bytes_decides _ _).0 is)

unicode_length : (word : List ℕ) → is_unicode word ≡ true → length word ≡ 7
unicode_length word is = same_length (codes "unicode") word ((bytes_decides _ _).0 is)

take_word : (word rest : List ℕ) (n : ℕ) → length word ≡ n → take n (word ++ rest) ≡ word
take_word word rest n count = ap (λ m. take m (word ++ rest)) (sym count) ∙ take-append_seam word rest

first_letter : (c : ℕ) (word others : List ℕ) → is_unicode (c ∷ word) ≡ true → is_hex (c ∷ others) ≡ false
first_letter c word others is =
    let letter : octet_of "u" ≡ to_ascii_lowercase c = eqb-true (octet_of "u") (to_ascii_lowercase c) (first_of_both (octet_of "u" == to_ascii_lowercase c) _ is) in
    ap (λ one. (octet_of "h" == one) && bytes_eq (codes "ex") (map to_ascii_lowercase others)) (sym letter)

not_both : (word rest : List ℕ) → is_unicode word ≡ true → is_hex (take 3 (word ++ rest)) ≡ false
not_both [] rest is = absurd cc
not_both (c ∷ word) rest is = first_letter c word (take 2 (word ++ rest)) is

word_step : (word rest : List ℕ) (b : Bool) → is_hex word ≡ b → (b || is_unicode word) ≡ true → word_at (word ++ rest) ≡ Some word
word_step word rest true is either =
    let front = take_word word rest 3 (hex_length word is) in
    ap (λ one. cond (is_hex one) (Some one) (cond (is_unicode (take 7 (word ++ rest))) (Some (take 7 (word ++ rest))) None)) front
    ∙ ap (λ b. cond b (Some word) (cond (is_unicode (take 7 (word ++ rest))) (Some (take 7 (word ++ rest))) None)) is
word_step word rest false is either =
    ap (λ b. cond b (Some (take 3 (word ++ rest))) (cond (is_unicode (take 7 (word ++ rest))) (Some (take 7 (word ++ rest))) None)) (not_both word rest either)
    ∙ ap (λ one. cond (is_unicode one) (Some one) None) (take_word word rest 7 (unicode_length word either))
    ∙ ap (λ b. cond b (Some word) None) either

word_at-is : (word rest : List ℕ) → is_word word ≡ true → word_at (word ++ rest) ≡ Some word
word_at-is word rest is = word_step word rest (is_hex word) refl is

-- a sequence as it is written is found

written-is : (s : EncodedSequence) (rest : List ℕ) → written s ++ rest ≡ octet_of "$" ∷ octet_of "{" ∷ (s.word ++ octet_of ":" ∷ (inside_written s.inside ++ octet_of "}" ∷ rest))
written-is s rest =
    ap (λ octets. octet_of "$" ∷ octet_of "{" ∷ octets)
    (append_assoc (s.word ++ octet_of ":" ∷ inside_written s.inside) (octet_of "}" ∷ []) rest ∙ append_assoc s.word (octet_of ":" ∷ inside_written s.inside) (octet_of "}" ∷ rest))

brace_found : (s : EncodedSequence) (rest : List ℕ) → is_inside (is_hex s.word) s.inside ≡ true → before_brace s.word (inside_written s.inside) (octet_of "}" ∷ rest) ≡ Some s
brace_found s rest legal =
    ap (λ inside. cond (is_inside (is_hex s.word) inside) (Some (record { word = s.word; inside = inside })) None) (inside_read (is_hex s.word) s.inside legal)
    ∙ ap (λ b. cond b (Some s) None) legal

pub sequence_at-written : (s : EncodedSequence) (rest : List ℕ) → is_legal s ≡ true → sequence_at (written s ++ rest) ≡ Some s
unfolding sequence_at
sequence_at-written s rest legal =
    let inside = last_of_both (is_word s.word) (is_inside (is_hex s.word) s.inside) legal in
    let stands = inside_stands (is_hex s.word) s.inside inside in
    let octets = inside_written s.inside ++ octet_of "}" ∷ rest in
    let after = octet_of ":" ∷ octets in
    ap sequence_at (written-is s rest)
    ∙ ap (λ word. by_word word (s.word ++ after)) (word_at-is s.word after (first_of_both (is_word s.word) (is_inside (is_hex s.word) s.inside) legal))
    ∙ ap (after_word s.word) (drop-append_seam s.word after)
    ∙ ap (λ one. before_brace s.word one (after_run octets)) (run-is (inside_written s.inside) rest stands)
    ∙ ap (before_brace s.word (inside_written s.inside)) (after_run-is (inside_written s.inside) rest stands)
    ∙ brace_found s rest inside

-- a sequence that is found is written there

-- octets that go on after `${` as a sequence does
record GoesOn (octets : List ℕ) (s : EncodedSequence) : Type 0 where
  pub inside : is_inside (is_hex s.word) s.inside ≡ true
  pub rest : List ℕ
  pub is : octets ≡ octet_of ":" ∷ (inside_written s.inside ++ octet_of "}" ∷ rest)

-- octets after `:`, by the first of them that may stand there
record EndsIn (word octets after : List ℕ) (s : EncodedSequence) : Type 0 where
  pub same : s.word ≡ word
  pub written : inside_written s.inside ≡ octets
  pub inside : is_inside (is_hex s.word) s.inside ≡ true
  pub rest : List ℕ
  pub is : after ≡ octet_of "}" ∷ rest

brace_step : (word octets : List ℕ) (c : ℕ) (rest : List ℕ) (s : EncodedSequence) (b : Bool) → (c == octet_of "}" && is_inside (is_hex word) (inside_of octets)) ≡ b → cond b (Some (record { word = word; inside = inside_of octets })) None ≡ Some s → EndsIn word octets (c ∷ rest) s
brace_step word octets c rest s true signs is =
    let made : EncodedSequence = record { word = word; inside = inside_of octets } in
    let same : made ≡ s = cc in
    subst (EndsIn word octets (c ∷ rest)) same (record {
      same = refl;
      written = written_again octets;
      inside = last_of_both (c == octet_of "}") (is_inside (is_hex word) (inside_of octets)) signs;
      rest = rest;
      is = ap (λ one. one ∷ rest) (eqb-true c (octet_of "}") (first_of_both (c == octet_of "}") (is_inside (is_hex word) (inside_of octets)) signs));
    })
brace_step word octets c rest s false signs is = absurd cc

brace_ends : (word octets after : List ℕ) (s : EncodedSequence) → before_brace word octets after ≡ Some s → EndsIn word octets after s
brace_ends word octets [] s is = absurd cc
brace_ends word octets (c ∷ rest) s is = brace_step word octets c rest s (c == octet_of "}" && is_inside (is_hex word) (inside_of octets)) refl is

sign_step : (word : List ℕ) (c : ℕ) (rest : List ℕ) (s : EncodedSequence) (b : Bool) → (c == octet_of ":") ≡ b → cond b (before_brace word (run rest) (after_run rest)) None ≡ Some s → (s.word ≡ word) × GoesOn (c ∷ rest) s
sign_step word c rest s true sign is =
    let ends = brace_ends word (run rest) (after_run rest) s is in
    let whole : inside_written s.inside ++ octet_of "}" ∷ ends.rest ≡ rest =
    ap (λ octets. octets ++ octet_of "}" ∷ ends.rest) ends.written ∙ ap (λ octets. run rest ++ octets) (sym ends.is) ∙ run_rest rest in (
      ends.same,
      record {
        inside = ends.inside;
        rest = ends.rest;
        is = ap (λ one. one ∷ rest) (eqb-true c (octet_of ":") sign) ∙ ap (λ octets. octet_of ":" ∷ octets) (sym whole);
      },
    )
sign_step word c rest s false sign is = absurd cc

after_word-is : (word octets : List ℕ) (s : EncodedSequence) → after_word word octets ≡ Some s → (s.word ≡ word) × GoesOn octets s
after_word-is word [] s is = absurd cc
after_word-is word (c ∷ rest) s is = sign_step word c rest s (c == octet_of ":") refl is

-- the first octets, as many as are there, and those after them
take_and_drop : (n : ℕ) (octets : List ℕ) → take n octets ++ drop (length (take n octets)) octets ≡ octets
take_and_drop zero octets = refl
take_and_drop (suc n) [] = refl
take_and_drop (suc n) (c ∷ octets) = ap (λ octets. c ∷ octets) (take_and_drop n octets)

or_right : (a b : Bool) → b ≡ true → (a || b) ≡ true
or_right true b is = refl
or_right false b is = is

-- a word with which octets begin
record BeginsWithWord (octets word : List ℕ) : Type 0 where
  pub legal : is_word word ≡ true
  pub is : octets ≡ word ++ drop (length word) octets

word_choice : (octets word : List ℕ) (a b : Bool) → is_hex (take 3 octets) ≡ a → is_unicode (take 7 octets) ≡ b → cond a (Some (take 3 octets)) (cond b (Some (take 7 octets)) None) ≡ Some word → BeginsWithWord octets word
word_choice octets word true b hex unicode is =
    let same : take 3 octets ≡ word = cc in
    subst (BeginsWithWord octets) same (record { legal = or_left (is_hex (take 3 octets)) _ hex; is = sym (take_and_drop 3 octets) })
word_choice octets word false true hex unicode is =
    let same : take 7 octets ≡ word = cc in
    subst (BeginsWithWord octets) same (record { legal = or_right (is_hex (take 7 octets)) _ unicode; is = sym (take_and_drop 7 octets) })
word_choice octets word false false hex unicode is = absurd cc

word_begins : (octets word : List ℕ) → word_at octets ≡ Some word → BeginsWithWord octets word
word_begins octets word is = word_choice octets word (is_hex (take 3 octets)) (is_unicode (take 7 octets)) refl refl is

-- octets that begin with a sequence after `${`
record Starts (octets : List ℕ) (s : EncodedSequence) : Type 0 where
  pub legal : is_legal s ≡ true
  pub rest : List ℕ
  pub is : octets ≡ s.word ++ octet_of ":" ∷ (inside_written s.inside ++ octet_of "}" ∷ rest)

word_starts : (octets : List ℕ) (s : EncodedSequence) (found : Option (List ℕ)) → word_at octets ≡ found → by_word found octets ≡ Some s → Starts octets s
word_starts octets s None at is = absurd cc
word_starts octets s (Some word) at is =
    let begins = word_begins octets word at in
    let after = after_word-is word (drop (length word) octets) s is in
    let goes = after.1 in
    record {
      legal = both (is_word s.word) (is_inside (is_hex s.word) s.inside) (ap is_word after.0 ∙ begins.legal) goes.inside;
      rest = goes.rest;
      is = begins.is ∙ ap (λ one. word ++ one) goes.is ∙ ap (λ one. one ++ octet_of ":" ∷ (inside_written s.inside ++ octet_of "}" ∷ goes.rest)) (sym after.0);
    }

found_step : (c d : ℕ) (rest : List ℕ) (s : EncodedSequence) (b : Bool) → (c == octet_of "$" && d == octet_of "{") ≡ b → cond b (by_word (word_at rest) rest) None ≡ Some s → (is_legal s ≡ true) × (after : List ℕ) × (c ∷ d ∷ rest ≡ written s ++ after)
found_step c d rest s true signs is =
    let first = eqb-true c (octet_of "$") (first_of_both (c == octet_of "$") (d == octet_of "{") signs) in
    let second = eqb-true d (octet_of "{") (last_of_both (c == octet_of "$") (d == octet_of "{") signs) in
    let starts = word_starts rest s (word_at rest) refl is in (
      starts.legal,
      starts.rest,
      ap (λ one. one ∷ d ∷ rest) first
          ∙ ap (λ one. octet_of "$" ∷ one ∷ rest) second
          ∙ ap (λ octets. octet_of "$" ∷ octet_of "{" ∷ octets) starts.is
          ∙ sym (written-is s starts.rest),
    )
found_step c d rest s false signs is = absurd cc

pub found_is_written : (text : List ℕ) (s : EncodedSequence) → sequence_at text ≡ Some s → (is_legal s ≡ true) × (rest : List ℕ) × (text ≡ written s ++ rest)
unfolding sequence_at
found_is_written [] s is = absurd cc
found_is_written (c ∷ []) s is = absurd cc
found_is_written (c ∷ d ∷ rest) s is = found_step c d rest s (c == octet_of "$" && d == octet_of "{") refl is

pub length-written : (s : EncodedSequence) → length (written s) ≡ suc (further s)
length-written s = simp length-append (omega arith)

-- exactly the legal sequences are found
pub finds : FindsSequences written IsLegalEncoded sequence_at further
finds = record {
  legal = λ text s is. (found_is_written text s is).0;
  is = λ text s is. ((found_is_written text s is).1, (found_is_written text s is).2);
  found = sequence_at-written;
  count = λ s legal. length-written s;
}
