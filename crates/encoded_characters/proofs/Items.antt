-- Octets as runs of digits, each with the octets before it.
use Rattle.std.proofs.Common.{◌≡◌, ℕ, suc, ◌+◌, ◌<◌, Bool, true, false, not, ◌&&◌, ◌||◌, cond, List, [], ◌∷◌, ◌++◌, length, take, drop, refl, sym, ◌∙◌, ap, append-nil, arith}
use Rattle.std.specs.List.{list_all, prefix_len, take_while}
use Rattle.std.proofs.lemmas.Bool.{not-true, not_from_false}
use Rattle.std.proofs.lemmas.Bool.Decides.{nat_tests}
use Rattle.std.proofs.lemmas.List.{take-append-drop}
use Rattle.std.proofs.lemmas.List.Sums.{take_while-cons}
use Rattle.octets.proofs.Both.{both, first_of_both, last_of_both}
use Rattle.octets.specs.Octet.{is_filled}
use Rattle.encoded_characters.specs.Scan.{blank_before, digit_before, inside_of, octet_onto}
use Rattle.encoded_characters.specs.Sequence.{InsideSequence, Item, are_blanks, are_items, inside_written, is_hex_digit, is_inside, is_item}
use Rattle.encoded_characters.specs.view.Sequence.{item_before, last_alone}

-- an octet before others

abbrev pub not_hex : ℕ → Bool
not_hex c = not (is_hex_digit c)

digit_step : (c : ℕ) (inside : InsideSequence) → is_hex_digit c ≡ true → octet_onto c inside ≡ record { items = digit_before c inside.items; last = inside.last }
digit_step c inside is = ap (λ b. cond b (record { items = digit_before c inside.items; last = inside.last }) (blank_before c inside.items inside.last)) is

gap_step : (c : ℕ) (inside : InsideSequence) → not_hex c ≡ true → octet_onto c inside ≡ blank_before c inside.items inside.last
gap_step c inside is = ap (λ b. cond b (record { items = digit_before c inside.items; last = inside.last }) (blank_before c inside.items inside.last)) (not-true (is_hex_digit c) is)

-- runs

-- octets that don't begin with a digit
abbrev pub no_digit : List ℕ → Bool
no_digit [] = true
no_digit (c ∷ rest) = not_hex c

apart_step : (c b : ℕ) (items : List Item) (last : List ℕ) → digit_before c (blank_before b items last).items ≡ record { blanks = []; digits = c ∷ [] } ∷ (blank_before b items last).items
apart_step c b [] last = refl
apart_step c b (item ∷ items) last = refl

first_digit : (c : ℕ) (rest : List ℕ) → is_hex_digit c ≡ true → no_digit rest ≡ true → inside_of (c ∷ rest) ≡ item_before (record { blanks = []; digits = c ∷ [] }) (inside_of rest)
unfolding inside_of
first_digit c [] is apart = digit_step c (record { items = []; last = [] }) is
first_digit c (b ∷ rest) is apart =
    let inside = inside_of rest in
    let after = blank_before b inside.items inside.last in
    let step = gap_step b inside apart in
    digit_step c (octet_onto b inside) is
    ∙ ap (λ (one : InsideSequence). record { items = digit_before c one.items; last = one.last }) step
    ∙ ap (λ (items : List Item). record { items = items; last = after.last }) (apart_step c b inside.items inside.last)
    ∙ sym (ap (item_before (record { blanks = []; digits = c ∷ [] })) step)

digits_run : (c : ℕ) (digits rest : List ℕ) → is_hex_digit c ≡ true → list_all is_hex_digit digits ≡ true → no_digit rest ≡ true → inside_of (c ∷ (digits ++ rest)) ≡ item_before (record { blanks = []; digits = c ∷ digits }) (inside_of rest)
unfolding inside_of
digits_run c [] rest is are apart = first_digit c rest is apart
digits_run c (d ∷ digits) rest is are apart =
    digit_step c (inside_of (d ∷ (digits ++ rest))) is
    ∙ ap (λ (one : InsideSequence). record { items = digit_before c one.items; last = one.last }) (digits_run d digits rest (first_of_both (is_hex_digit d) (list_all is_hex_digit digits) are) (last_of_both (is_hex_digit d) (list_all is_hex_digit digits) are) apart)

gap_run : (gap rest : List ℕ) (item : Item) (inside : InsideSequence) → list_all not_hex gap ≡ true → inside_of rest ≡ item_before item inside → inside_of (gap ++ rest) ≡ item_before (record { blanks = gap ++ item.blanks; digits = item.digits }) inside
unfolding inside_of
gap_run [] rest item inside are is = is
gap_run (c ∷ gap) rest item inside are is =
    gap_step c (inside_of (gap ++ rest)) (first_of_both (not_hex c) (list_all not_hex gap) are)
    ∙ ap (λ (one : InsideSequence). blank_before c one.items one.last) (gap_run gap rest item inside (last_of_both (not_hex c) (list_all not_hex gap) are) is)

-- octets without digits
pub last_run : (gap : List ℕ) → list_all not_hex gap ≡ true → inside_of gap ≡ last_alone gap
unfolding inside_of
last_run [] are = refl
last_run (c ∷ gap) are =
    gap_step c (inside_of gap) (first_of_both (not_hex c) (list_all not_hex gap) are)
    ∙ ap (λ (one : InsideSequence). blank_before c one.items one.last) (last_run gap (last_of_both (not_hex c) (list_all not_hex gap) are))

-- a run of digits, with the octets before it, and the octets after it
pub item_run : (gap digits rest : List ℕ) → list_all not_hex gap ≡ true → 0 < length digits → list_all is_hex_digit digits ≡ true → no_digit rest ≡ true → inside_of (gap ++ (digits ++ rest)) ≡ item_before (record { blanks = gap; digits = digits }) (inside_of rest)
item_run gap [] rest blank some are apart = absurd (omega arith)
item_run gap (c ∷ digits) rest blank some are apart =
    gap_run gap (c ∷ (digits ++ rest)) (record { blanks = []; digits = c ∷ digits }) (inside_of rest) blank
    (digits_run c digits rest (first_of_both (is_hex_digit c) (list_all is_hex_digit digits) are) (last_of_both (is_hex_digit c) (list_all is_hex_digit digits) are) apart)
    ∙ ap (λ blanks. item_before (record { blanks = blanks; digits = c ∷ digits }) (inside_of rest)) (append-nil gap)

-- the first octets that pass a test

all_step : (p : ℕ → Bool) (c : ℕ) (octets : List ℕ) (b : Bool) → p c ≡ b → list_all p (take_while p octets) ≡ true → list_all p (cond b (c ∷ take_while p octets) []) ≡ true
all_step p c octets true is after = both (p c) (list_all p (take_while p octets)) is after
all_step p c octets false is after = refl

pub run_all : (p : ℕ → Bool) (octets : List ℕ) → list_all p (take_while p octets) ≡ true
run_all p [] = refl
run_all p (c ∷ octets) = ap (list_all p) (take_while-cons p c octets) ∙ all_step p c octets (p c) refl (run_all p octets)

one_more : (n : ℕ) → 1 + n ≡ suc n
one_more n = omega arith

apart_after : (c : ℕ) (octets : List ℕ) (b : Bool) → is_hex_digit c ≡ b → no_digit (drop (prefix_len is_hex_digit octets) octets) ≡ true → no_digit (drop (cond b (1 + prefix_len is_hex_digit octets) 0) (c ∷ octets)) ≡ true
apart_after c octets true is after = ap (λ n. no_digit (drop n (c ∷ octets))) (one_more (prefix_len is_hex_digit octets)) ∙ after
apart_after c octets false is after = not_from_false (is_hex_digit c) is

-- no digit stands after a whole run of digits
pub digits_end : (octets : List ℕ) → no_digit (drop (prefix_len is_hex_digit octets) octets) ≡ true
digits_end [] = refl
digits_end (c ∷ octets) = apart_after c octets (is_hex_digit c) refl (digits_end octets)

whole_step : (c : ℕ) (octets : List ℕ) (b : Bool) → is_hex_digit c ≡ b → (prefix_len is_hex_digit (drop (prefix_len not_hex octets) octets) ≡ 0 → list_all not_hex octets ≡ true) → prefix_len is_hex_digit (drop (cond (not b) (1 + prefix_len not_hex octets) 0) (c ∷ octets)) ≡ 0 → (not b && list_all not_hex octets) ≡ true
whole_step c octets true is after none =
    let more : cond (is_hex_digit c) (1 + prefix_len is_hex_digit octets) 0 ≡ 1 + prefix_len is_hex_digit octets = ap (λ b. cond b (1 + prefix_len is_hex_digit octets) 0) is in
    absurd (omega arith)
whole_step c octets false is after none =
    after (ap (λ n. prefix_len is_hex_digit (drop n (c ∷ octets))) (sym (one_more (prefix_len not_hex octets))) ∙ none)

-- where no digit stands after the first octets that are no digits, there is none
pub whole_gap : (octets : List ℕ) → prefix_len is_hex_digit (drop (prefix_len not_hex octets) octets) ≡ 0 → list_all not_hex octets ≡ true
whole_gap [] none = refl
whole_gap (c ∷ octets) none = whole_step c octets (is_hex_digit c) refl (whole_gap octets) none

pub next_none : (octets further : List ℕ) → further ≡ drop (prefix_len not_hex octets) octets → prefix_len is_hex_digit further ≡ 0 → inside_of octets ≡ last_alone octets
next_none octets further is none = last_run octets (whole_gap octets (ap (prefix_len is_hex_digit) (sym is) ∙ none))

pub next_some : (octets blanks further digits rest : List ℕ) → blanks ≡ take (prefix_len not_hex octets) octets → further ≡ drop (prefix_len not_hex octets) octets → digits ≡ take (prefix_len is_hex_digit further) further → rest ≡ drop (prefix_len is_hex_digit further) further → 0 < length digits → inside_of octets ≡ item_before (record { blanks = blanks; digits = digits }) (inside_of rest)
next_some octets blanks further digits rest blanks_is further_is digits_is rest_is some =
    let whole : blanks ++ (digits ++ rest) ≡ octets =
    ap (λ one. blanks ++ (one ++ rest)) digits_is
    ∙ ap (λ one. blanks ++ (take (prefix_len is_hex_digit further) further ++ one)) rest_is
    ∙ ap (λ one. blanks ++ one) (take-append-drop (prefix_len is_hex_digit further) further ∙ further_is)
    ∙ ap (λ one. one ++ drop (prefix_len not_hex octets) octets) blanks_is
    ∙ take-append-drop (prefix_len not_hex octets) octets in
    ap inside_of (sym whole)
    ∙ item_run blanks digits rest (ap (list_all not_hex) blanks_is ∙ run_all not_hex octets) some (ap (list_all is_hex_digit) digits_is ∙ run_all is_hex_digit further) (ap no_digit rest_is ∙ digits_end further)

-- the runs of octets are written as these octets

onto_written : (c : ℕ) (items : List Item) (last : List ℕ) (b : Bool) → inside_written (cond b (record { items = digit_before c items; last = last }) (blank_before c items last)) ≡ c ∷ inside_written (record { items = items; last = last })
onto_written c [] last true = refl
onto_written c (item ∷ items) last true = to_written item.blanks item.digits
  where
    to_written : (blanks digits : List ℕ) → inside_written (record { items = digit_before c (record { blanks = blanks; digits = digits } ∷ items); last = last }) ≡ c ∷ inside_written (record { items = record { blanks = blanks; digits = digits } ∷ items; last = last })
    to_written [] digits = refl
    to_written (b ∷ blanks) digits = refl
onto_written c [] last false = refl
onto_written c (item ∷ items) last false = refl

pub written_again : (octets : List ℕ) → inside_written (inside_of octets) ≡ octets
unfolding inside_of
written_again [] = refl
written_again (c ∷ rest) = onto_written c (inside_of rest).items (inside_of rest).last (is_hex_digit c) ∙ ap (λ octets. c ∷ octets) (written_again rest)

-- between two runs of digits there are octets

abbrev is_apart : Item → Bool
is_apart item = is_filled item.blanks

abbrev apart_items : List Item → Bool
apart_items [] = true
apart_items (item ∷ items) = list_all is_apart items

filled : (c : ℕ) (octets : List ℕ) → is_filled (c ∷ octets) ≡ true
filled c octets = grind (arith, nat_tests)

apart_onto : (c : ℕ) (items : List Item) (last : List ℕ) (b : Bool) → apart_items items ≡ true → apart_items (cond b (record { items = digit_before c items; last = last }) (blank_before c items last)).items ≡ true
apart_onto c [] last true are = refl
apart_onto c (item ∷ items) last true are = to_apart item.blanks item.digits
  where
    to_apart : (blanks digits : List ℕ) → apart_items (digit_before c (record { blanks = blanks; digits = digits } ∷ items)) ≡ true
    to_apart [] digits = are
    to_apart (b ∷ blanks) digits = both (is_filled (b ∷ blanks)) (list_all is_apart items) (filled b blanks) are
apart_onto c [] last false are = refl
apart_onto c (item ∷ items) last false are = are

pub are_apart : (octets : List ℕ) → apart_items (inside_of octets).items ≡ true
unfolding inside_of
are_apart [] = refl
are_apart (c ∷ rest) = apart_onto c (inside_of rest).items (inside_of rest).last (is_hex_digit c) (are_apart rest)

-- whether there are items, and whether each is legal

abbrev some_items : List Item → Bool
some_items [] = false
some_items (item ∷ items) = true

abbrev pub has_items : InsideSequence → Bool
has_items inside = some_items inside.items

abbrev pub are_each : (hex : Bool) → InsideSequence → Bool
are_each hex inside = list_all (is_item hex) inside.items && are_blanks inside.last

each_apart : (hex : Bool) (items : List Item) → list_all is_apart items ≡ true → list_all (λ further. is_filled further.blanks && is_item hex further) items ≡ list_all (is_item hex) items
each_apart hex [] are = refl
each_apart hex (item ∷ items) are =
    ap (λ b. (b && is_item hex item) && list_all (λ further. is_filled further.blanks && is_item hex further) items) (first_of_both (is_apart item) (list_all is_apart items) are)
    ∙ ap (λ b. is_item hex item && b) (each_apart hex items (last_of_both (is_apart item) (list_all is_apart items) are))

and_assoc : (a b c : Bool) → ((a && b) && c) ≡ (a && (b && c))
and_assoc true b c = refl
and_assoc false b c = refl

legal_items : (hex : Bool) (items : List Item) (last : List ℕ) → apart_items items ≡ true → (are_items hex items && are_blanks last) ≡ (some_items items && (list_all (is_item hex) items && are_blanks last))
legal_items hex [] last are = refl
legal_items hex (item ∷ items) last are = ap (λ b. (is_item hex item && b) && are_blanks last) (each_apart hex items are)

pub inside_legal : (hex : Bool) (octets : List ℕ) → is_inside hex (inside_of octets) ≡ (has_items (inside_of octets) && are_each hex (inside_of octets))
inside_legal hex octets = legal_items hex (inside_of octets).items (inside_of octets).last (are_apart octets)

-- an item is followed by the others

each_step : (hex : Bool) (item : Item) (inside : InsideSequence) (b : Bool) → is_item hex item ≡ b → b ≡ false → are_each hex (item_before item inside) ≡ false
each_step hex item inside b is none = ap (λ b. (b && list_all (is_item hex) inside.items) && are_blanks inside.last) (is ∙ none)

pub refused : (hex : Bool) (octets left : List ℕ) (item : Item) (inside : InsideSequence) → inside_of left ≡ item_before item inside → is_item hex item ≡ false → are_each hex (inside_of left) ≡ are_each hex (inside_of octets) → false ≡ is_inside hex (inside_of octets)
refused hex octets left item inside is none so_far =
    let each : are_each hex (inside_of octets) ≡ false = sym so_far ∙ ap (are_each hex) is ∙ each_step hex item inside (is_item hex item) refl none in
    sym (inside_legal hex octets ∙ ap (λ b. has_items (inside_of octets) && b) each ∙ never (has_items (inside_of octets)))
  where
    never : (b : Bool) → (b && false) ≡ false
    never true = refl
    never false = refl

pub ended : (hex any : Bool) (octets left : List ℕ) → any ≡ true → inside_of left ≡ last_alone left → (any || has_items (inside_of left)) ≡ has_items (inside_of octets) → are_each hex (inside_of left) ≡ are_each hex (inside_of octets) → are_blanks left ≡ is_inside hex (inside_of octets)
ended hex any octets left some is has each =
    let found : true ≡ has_items (inside_of octets) = ap (λ b. b || has_items (inside_of left)) (sym some) ∙ has in
    sym (ap (are_each hex) is) ∙ each ∙ ap (λ b. b && are_each hex (inside_of octets)) found ∙ sym (inside_legal hex octets)
