-- The text of a word stands for octets.
use Rattle.std.proofs.Common.{◌≡◌, ℕ, zero, suc, ◌+◌, ◌-◌, ◌*◌, ◌/◌, ◌%◌, ◌<◌, ◌==◌, nat_le, nat_lt, Bool, true, false, not, ◌&&◌, cond, List, [], ◌∷◌, ◌++◌, length, take, drop, get_or, Option, None, Some, refl, sym, ◌∙◌, ap, subst, inl, inr, arith}
use Rattle.std.specs.List.{list_all}
use Rattle.std.specs.Option.{option_and_then, option_map}
use Rattle.std.specs.Result.{result_ok}
use Rattle.std.specs.declared.result.Result.{Result}
use Rattle.std.specs.declared.result.Result.TheVariants.{Ok, Err}
use Rattle.std.proofs.lemmas.Bool.Decides.{nat_tests}
use Rattle.std.proofs.lemmas.List.{get_or-drop}
use Rattle.base64.specs.Decode.{IsDecodeTable, decode_group, decode_outcome, group_error, groups_before_last, groups_bytes, groups_error, lone_error, no_leftover, or_else, push_leftover, scan_bytes, scan_last, scan_steps, suffix_bytes, suffix_error, symbol_error}
use Rattle.base64.specs.Engines.{standard}
use Rattle.base64.specs.GeneralPurpose.{IsBytes, decode_of, decoded_bytes_of}
use Rattle.base64.specs.declared.decode.DecodeError.{DecodeError}
use Rattle.base64.specs.declared.engine.general_purpose.GeneralPurpose.{GeneralPurpose}
use Rattle.base64.proofs.Decoding.{IsLeftover, IsLeftover_next, ok_value}
use Rattle.base64.proofs.Tables.{IsDecodeTable_from, are_tables_inverse}
use Rattle.octets.proofs.Both.{both, first_of_both, last_of_both}
use Rattle.octets.specs.Hex.{hex_octet, hex_value}
use Rattle.octets.specs.Octet.{is_between, is_digit, is_filled, is_visible, octet_of}
use Rattle.charsets.proofs.Known.{below_at}
use Rattle.encoded_words.specs.Meaning.{octets_in}
use Rattle.encoded_words.specs.Encoding.{b_octets, octet_before, plain_octet, q_octets}
use Rattle.encoded_words.specs.Word.{EncodedWord, is_b, is_legal, is_letter, is_word_octet}

abbrev pub is_octet : ℕ → Bool
is_octet n = nat_lt n 256

pub octet_from : (n : ℕ) → n < 256 → is_octet n ≡ true
octet_from n within = grind (arith, nat_tests, within)

appended : (xs ys : List ℕ) → list_all is_octet xs ≡ true → list_all is_octet ys ≡ true → list_all is_octet (xs ++ ys) ≡ true
appended [] ys first after = after
appended (x ∷ xs) ys first after =
    both (is_octet x) (list_all is_octet (xs ++ ys)) (first_of_both (is_octet x) (list_all is_octet xs) first)
    (appended xs ys (last_of_both (is_octet x) (list_all is_octet xs) first) after)

taken : (n : ℕ) (xs : List ℕ) → list_all is_octet xs ≡ true → list_all is_octet (take n xs) ≡ true
taken zero xs are = refl
taken (suc n) [] are = refl
taken (suc n) (x ∷ xs) are =
    both (is_octet x) (list_all is_octet (take n xs)) (first_of_both (is_octet x) (list_all is_octet xs) are)
    (taken n xs (last_of_both (is_octet x) (list_all is_octet xs) are))

-- a text in B

group_are : (a b c d : ℕ) → a < 64 → b < 64 → c < 64 → d < 64 → list_all is_octet (decode_group a b c d) ≡ true
group_are a b c d la lb lc ld =
    let first = octet_from (a * 4 + b / 16) (omega arith) in
    let second = octet_from (b % 16 * 16 + c / 4) (omega arith) in
    let third = octet_from (c % 4 * 64 + d) (omega arith) in
    rw (first, second, third) refl

none_of : (x y : Option DecodeError) → or_else x y ≡ None → (x ≡ None) × (y ≡ None)
none_of None y none = (refl, none)
none_of (Some error) y none = absurd cc

symbol_below : (dec s : List ℕ) (i : ℕ) → IsDecodeTable dec → IsBytes s → symbol_error dec s i ≡ None → get_or dec (get_or s i 0) 0 < 64
symbol_below dec s i table bytes none = elim (table (get_or s i 0) (bytes i)) [
  | inl bad ↦ cc (rw bad at none)
  | inr good ↦ good
]

groups_are : (dec s : List ℕ) (q : ℕ) → IsDecodeTable dec → IsBytes s → groups_error dec s q ≡ None → list_all is_octet (groups_bytes dec s q) ≡ true
unfolding groups_error groups_bytes
groups_are dec s zero table bytes none = refl
groups_are dec s (suc q) table bytes none =
    let i : ℕ = 4 * q in
    let parts = none_of (groups_error dec s q) (group_error dec s i) none in
    let first = none_of (symbol_error dec s i) (or_else (symbol_error dec s (i + 1)) (or_else (symbol_error dec s (i + 2)) (symbol_error dec s (i + 3)))) parts.1 in
    let second = none_of (symbol_error dec s (i + 1)) (or_else (symbol_error dec s (i + 2)) (symbol_error dec s (i + 3))) first.1 in
    let third = none_of (symbol_error dec s (i + 2)) (symbol_error dec s (i + 3)) second.1 in
    appended (groups_bytes dec s q) _ (groups_are dec s q table bytes parts.0)
    (group_are _ _ _ _ (symbol_below dec s i table bytes first.0) (symbol_below dec s (i + 1) table bytes second.0)
    (symbol_below dec s (i + 2) table bytes third.0) (symbol_below dec s (i + 3) table bytes third.1))

scan_step : (dec bs : List ℕ) (pad at i b : ℕ) (state last : _) (pushed : Result _ DecodeError) → IsDecodeTable dec → b < 256 → IsLeftover state i → push_leftover dec pad at state i b ≡ pushed
    → ((next : _) → IsLeftover next (i + 1) → scan_steps dec pad at (Ok next) (i + 1) bs ≡ Ok last → (n : ℕ) × IsLeftover last n)
    → scan_steps dec pad at pushed (i + 1) bs ≡ Ok last → (n : ℕ) × IsLeftover last n
unfolding scan_steps
scan_step dec bs pad at i b state last (Ok next) table byte held is after so = after next (IsLeftover_next dec pad at state i b next table held byte is) so
scan_step dec bs pad at i b state last (Err error) table byte held is after so = absurd cc

scan_are : (dec bs : List ℕ) (pad at i : ℕ) (state last : _) → IsDecodeTable dec → IsBytes bs → IsLeftover state i → scan_steps dec pad at (Ok state) i bs ≡ Ok last → (n : ℕ) × IsLeftover last n
unfolding scan_steps
scan_are dec [] pad at i state last table bytes held is =
    (i, subst (λ one. IsLeftover one i) (ap (λ x. ok_value x state) is) held)
scan_are dec (b ∷ bs) pad at i state last table bytes held is =
    scan_step dec bs pad at i b state last (push_leftover dec pad at state i b) table (bytes 0) held refl
    (λ next kept so. scan_are dec bs pad at (i + 1) next last table (λ k. bytes (suc k)) kept so) is

nothing_left : (k : ℕ) → get_or (0 ∷ 0 ∷ 0 ∷ 0 ∷ []) k 0 < 64
nothing_left zero = omega arith
nothing_left (suc zero) = omega arith
nothing_left (suc (suc zero)) = omega arith
nothing_left (suc (suc (suc zero))) = omega arith
nothing_left (suc (suc (suc (suc k)))) = omega arith

last_are : (scanned : Result _ DecodeError) → ((last : _) → scanned ≡ Ok last → (n : ℕ) × IsLeftover last n) → list_all is_octet (scan_bytes scanned) ≡ true
last_are (Err error) held = refl
last_are (Ok last) held =
    let morsels = last.morsels in
    taken (last.morsels_count * 6 / 8) (decode_group (get_or morsels 0 0) (get_or morsels 1 0) (get_or morsels 2 0) (get_or morsels 3 0))
    (group_are (get_or morsels 0 0) (get_or morsels 1 0) (get_or morsels 2 0) (get_or morsels 3 0) ((held last refl).1.3 0) ((held last refl).1.3 1) ((held last refl).1.3 2) ((held last refl).1.3 3))

outcome_is : (error : Option DecodeError) (bytes octets : List ℕ) → decode_outcome error bytes ≡ Ok octets → (error ≡ None) × (bytes ≡ octets)
outcome_is None bytes octets is = (refl, cc)
outcome_is (Some error) bytes octets is = absurd cc

dropped : (s : List ℕ) (at : ℕ) → IsBytes s → IsBytes (drop at s)
dropped s at bytes k = rw (get_or-drop at s k 0) (bytes (at + k))

suffix_are : (dec s : List ℕ) (pad at : ℕ) → IsDecodeTable dec → IsBytes s → list_all is_octet (scan_bytes (scan_last dec pad at s)) ≡ true
suffix_are dec s pad at table bytes =
    last_are (scan_last dec pad at s)
    (λ last so. scan_are dec (drop at s) pad at 0 no_leftover last table (dropped s at bytes) (omega arith, omega arith, omega arith, nothing_left) so)

decoded_are : (e : GeneralPurpose) (s octets : List ℕ) → IsBytes s → decode_of e s ≡ Ok octets → list_all is_octet octets ≡ true
decoded_are e s octets bytes is =
    let dec = e.decode_table in
    let pad = e.padding.value in
    let q = groups_before_last (length s) in
    let groups = groups_error dec s q in
    let last = suffix_error dec pad e.config.decode_allow_trailing_bits e.config.decode_padding_mode (4 * q) s in
    let parts = outcome_is (or_else (lone_error dec pad s) (or_else groups last)) (decoded_bytes_of e s) octets is in
    let errors = none_of groups last (none_of (lone_error dec pad s) (or_else groups last) parts.0).1 in
    let table = IsDecodeTable_from e.encode_table dec (are_tables_inverse e.encode_table dec pad e.tables) in
    ap (list_all is_octet) (sym parts.1)
    ∙ appended (groups_bytes dec s q) (suffix_bytes dec pad (4 * q) s) (groups_are dec s q table bytes errors.0) (suffix_are dec s pad (4 * q) table bytes)

b_step : (found : Result (List ℕ) DecodeError) (octets : List ℕ) → result_ok found ≡ Some octets → found ≡ Ok octets
b_step (Ok bytes) octets is =
    let same : bytes ≡ octets = cc in
    ap Ok same
b_step (Err error) octets is = absurd cc

-- a text in Q

value_step : (digit high low : Bool) (octet n : ℕ) → is_digit octet ≡ digit → is_between (octet_of "A") (octet_of "F") octet ≡ high → is_between (octet_of "a") (octet_of "f") octet ≡ low
    → cond digit (Some (octet - octet_of "0")) (cond high (Some (octet - octet_of "A" + 10)) (cond low (Some (octet - octet_of "a" + 10)) None)) ≡ Some n → n < 16
value_step true high low octet n digit_is high_is low_is is =
    let same : octet - octet_of "0" ≡ n = cc in
    let below : nat_le octet (octet_of "9") ≡ true = last_of_both (nat_le (octet_of "0") octet) (nat_le octet (octet_of "9")) digit_is in
    grind (arith, nat_tests, below)
value_step false true low octet n digit_is high_is low_is is =
    let same : octet - octet_of "A" + 10 ≡ n = cc in
    let below : nat_le octet (octet_of "F") ≡ true = last_of_both (nat_le (octet_of "A") octet) (nat_le octet (octet_of "F")) high_is in
    grind (arith, nat_tests, below)
value_step false false true octet n digit_is high_is low_is is =
    let same : octet - octet_of "a" + 10 ≡ n = cc in
    let below : nat_le octet (octet_of "f") ≡ true = last_of_both (nat_le (octet_of "a") octet) (nat_le octet (octet_of "f")) low_is in
    grind (arith, nat_tests, below)
value_step false false false octet n digit_is high_is low_is is = absurd cc

value_below : (octet n : ℕ) → hex_value octet ≡ Some n → n < 16
value_below octet n is = value_step (is_digit octet) (is_between (octet_of "A") (octet_of "F") octet) (is_between (octet_of "a") (octet_of "f") octet) octet n refl refl refl is

digits_step : (high low : Option ℕ) (octet : ℕ) → ((n : ℕ) → high ≡ Some n → n < 16) → ((n : ℕ) → low ≡ Some n → n < 16) → option_and_then (λ h. option_map (λ l. 16 * h + l) low) high ≡ Some octet → octet < 256
digits_step None low octet high_below low_below is = absurd cc
digits_step (Some h) None octet high_below low_below is = absurd cc
digits_step (Some h) (Some l) octet high_below low_below is =
    let same : 16 * h + l ≡ octet = cc in
    omega (arith, high_below h refl, low_below l refl)

hex_below : (d e octet : ℕ) → hex_octet d e ≡ Some octet → octet < 256
hex_below d e octet is = digits_step (hex_value d) (hex_value e) octet (value_below d) (value_below e) is

plain_by : (b : Bool) (c : ℕ) → c < 256 → is_octet (cond b (octet_of " ") c) ≡ true
plain_by true c within = refl
plain_by false c within = octet_from c within

plain_is : (c : ℕ) → is_octet c ≡ true → is_octet (plain_octet c) ≡ true
plain_is c is = plain_by (c == octet_of "_") c (grind (arith, nat_tests, is))

-- each octet that a text in Q stands for is one
abbrev Are : Option (List ℕ) → Type 0
Are found = (octets : List ℕ) → found ≡ Some octets → list_all is_octet octets ≡ true

nothing : Are None
nothing octets is = absurd cc

some : (found : List ℕ) → list_all is_octet found ≡ true → Are (Some found)
some found are octets is =
    let same : found ≡ octets = cc in
    ap (list_all is_octet) (sym same) ∙ are

before : (c : ℕ) (found : Option (List ℕ)) → is_octet c ≡ true → Are found → Are (octet_before c found)
before c None is are = nothing
before c (Some octets) is are = some (c ∷ octets) (both (is_octet c) (list_all is_octet octets) is (are octets refl))

escape : (found : Option ℕ) (after : Option (List ℕ)) → ((octet : ℕ) → found ≡ Some octet → octet < 256) → Are after → Are (option_and_then (λ octet. octet_before octet after) found)
escape None after within are = nothing
escape (Some octet) after within are = before octet after (octet_from octet (within octet refl)) are

by_sign : (b : Bool) (escaped plain : Option (List ℕ)) → Are escaped → Are plain → Are (cond b escaped plain)
by_sign true escaped plain escaped_are plain_are = escaped_are
by_sign false escaped plain escaped_are plain_are = plain_are

q_are : (text : List ℕ) → list_all is_octet text ≡ true → Are (q_octets text)
unfolding q_octets
q_are [] are = some [] refl
q_are (c ∷ []) are =
    let first = plain_is c (first_of_both (is_octet c) true are) in
    by_sign (c == octet_of "=") None (Some (plain_octet c ∷ [])) nothing (some (plain_octet c ∷ []) (both (is_octet (plain_octet c)) true first refl))
q_are (c ∷ d ∷ []) are =
    let first = plain_is c (first_of_both (is_octet c) (list_all is_octet (d ∷ [])) are) in
    by_sign (c == octet_of "=") None (octet_before (plain_octet c) (q_octets (d ∷ []))) nothing
    (before (plain_octet c) (q_octets (d ∷ [])) first (q_are (d ∷ []) (last_of_both (is_octet c) (list_all is_octet (d ∷ [])) are)))
q_are (c ∷ d ∷ e ∷ rest) are =
    let first = plain_is c (first_of_both (is_octet c) (list_all is_octet (d ∷ e ∷ rest)) are) in
    let after = last_of_both (is_octet c) (list_all is_octet (d ∷ e ∷ rest)) are in
    let further = last_of_both (is_octet e) (list_all is_octet rest) (last_of_both (is_octet d) (list_all is_octet (e ∷ rest)) after) in
    by_sign (c == octet_of "=") (option_and_then (λ octet. octet_before octet (q_octets rest)) (hex_octet d e)) (octet_before (plain_octet c) (q_octets (d ∷ e ∷ rest)))
    (escape (hex_octet d e) (q_octets rest) (hex_below d e) (q_are rest further))
    (before (plain_octet c) (q_octets (d ∷ e ∷ rest)) first (q_are (d ∷ e ∷ rest) after))

-- the text of a word

b_are : (text : List ℕ) → list_all is_octet text ≡ true → Are (b_octets text)
unfolding b_octets
b_are text are octets is = decoded_are standard text octets (λ i. below_at 256 text i (omega arith) are) (b_step (decode_of standard text) octets is)

visible_octet : (c : ℕ) → is_word_octet c ≡ true → is_octet c ≡ true
visible_octet c is =
    let visible = first_of_both (is_visible c) (not (c == octet_of "?")) is in
    let below = last_of_both (nat_le (octet_of "!") c) (nat_le c (octet_of "~")) visible in
    grind (arith, nat_tests, below)

text_are : (text : List ℕ) → list_all is_word_octet text ≡ true → list_all is_octet text ≡ true
text_are [] are = refl
text_are (c ∷ text) are =
    both (is_octet c) (list_all is_octet text) (visible_octet c (first_of_both (is_word_octet c) (list_all is_word_octet text) are))
    (text_are text (last_of_both (is_word_octet c) (list_all is_word_octet text) are))

either_are : (b : Bool) (text : List ℕ) → list_all is_octet text ≡ true → Are (cond b (b_octets text) (q_octets text))
either_are true text are = b_are text are
either_are false text are = q_are text are

pub word_are : (word : EncodedWord) (octets : List ℕ) → is_legal word ≡ true → octets_in word ≡ Some octets → IsBytes octets
word_are word octets legal is =
    let text = last_of_both (is_letter word.letter) (list_all is_word_octet word.text)
    (last_of_both (is_filled word.charset && list_all is_word_octet word.charset) (is_letter word.letter && list_all is_word_octet word.text) legal) in
    let are = either_are (is_b word.letter) word.text (text_are word.text text) octets is in
    λ i. below_at 256 octets i (omega arith) are
