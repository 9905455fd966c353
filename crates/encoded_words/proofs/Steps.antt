-- Steps of decoding.
use Rattle.std.proofs.Common.{◌≡◌, ℕ, suc, ◌+◌, ◌<◌, ◌≤◌, Bool, true, false, ◌&&◌, ◌||◌, ◌==◌, cond, List, [], ◌∷◌, ◌++◌, length, map, take, drop, Option, None, Some, is_some, unwrap_or, refl, sym, ◌∙◌, ap, append_assoc, append-nil, add-one, ◌-◌, get_or, zero, encode_utf8, encode_utf8_all, arith}
use Rattle.std.specs.List.{list_all, list_any, prefix_len}
use Rattle.std.specs.Option.{option_and_then, option_map}
use Rattle.std.specs.Str.{IsUtf8, is_utf8}
use Rattle.std.proofs.lemmas.Bool.{false_from_ne_true}
use Rattle.std.proofs.lemmas.List.Folds.{length-prefix_len}
use Rattle.memchr.specs.Find.{IsFirstByte, Nowhere, Passes, is_byte}
use Rattle.std.proofs.lemmas.List.{take_all, take_more}
use Rattle.std.proofs.Math.ListN.{drop_of_length-le}
use Rattle.std.proofs.lemmas.Str.{encodes-append, IsUtf8-from_is_utf8, is_utf8-from_IsUtf8}
use Rattle.sieve_profile.specs.Profile.{Profile}
use Rattle.encoded_words.specs.Encoding.{octet_before}
use Rattle.text_cut.proofs.Cut.{cuts_from, pieces-octet, pieces-sequence}
use Rattle.text_cut.specs.Cut.{octet, sequence}
use Rattle.text_cut.specs.Scan.{pieces_from}
use Rattle.encoded_words.specs.Cut.{CutsWords, ReplacedWord, ValuePiece, joined, kept, leads_to_word, replaced}
use Rattle.octets.specs.Octet.{is_blank, octet_of}
use Rattle.charsets.specs.Charset.{charset_named, in_utf8}
use Rattle.charsets.specs.declared.charset.Charset.{Charset}
use Rattle.encoded_words.specs.Meaning.{meaning, octets_in}
use Rattle.encoded_words.specs.Scan.{decoded_of, further, has_word, replaced_at, replaced_of, has_known, is_known, is_word, pieces_of, run, with_meaning, word_at}
use Rattle.encoded_words.specs.Word.{EncodedWord, is_word_octet}
use Rattle.encoded_words.proofs.Cut.{finds}

pub run_len : (octets : List ℕ) → length (run octets) ≡ prefix_len is_word_octet octets
run_len octets = length-prefix_len is_word_octet octets

-- an octet more of a text in Q
pub octet_step : (done next : List ℕ) (c : ℕ) (left whole : Option (List ℕ)) → next ≡ done ++ c ∷ [] → option_map (λ more. done ++ more) (octet_before c left) ≡ whole → option_map (λ more. next ++ more) left ≡ whole
octet_step done next c None whole is so_far = so_far
octet_step done next c (Some more) whole is so_far =
    ap (λ one. Some (one ++ more)) is ∙ ap Some (append_assoc done (c ∷ []) more) ∙ so_far

-- octets are the first one and the octets after it
pub first_and_after : (octets : List ℕ) → 1 ≤ length octets → get_or octets 0 0 ∷ take (length octets - 1) (drop 1 octets) ≡ octets
first_and_after [] some = absurd (omega arith)
first_and_after (c ∷ octets) some = ap (λ after. c ∷ after) (take_all (length (c ∷ octets) - 1) octets (omega arith))

-- the piece with which a value begins

pub none_at : (profile : Profile) (value : List ℕ) → 0 < length value → None ≡ word_at value → pieces_of profile value ≡ octet (get_or value 0 0) ∷ pieces_of profile (drop 1 value)
none_at profile [] some is = absurd (omega arith)
none_at profile (c ∷ rest) some is = pieces-octet (replaced_at profile) further c rest (ap (with_meaning profile) (sym is))

-- a word, with the octets that it stands for
abbrev by_meaning : EncodedWord → Option (List ℕ) → Option ReplacedWord
by_meaning word meant = option_map (λ octets. record { word = word; octets = octets }) meant

pub meaningless_at : (profile : Profile) (value : List ℕ) (word : EncodedWord) → 0 < length value → Some word ≡ word_at value → None ≡ meaning profile word → pieces_of profile value ≡ octet (get_or value 0 0) ∷ pieces_of profile (drop 1 value)
meaningless_at profile [] word some is none = absurd (omega arith)
meaningless_at profile (c ∷ rest) word some is none =
    pieces-octet (replaced_at profile) further c rest (ap (with_meaning profile) (sym is) ∙ ap (by_meaning word) (sym none))

decoded_at : (profile : Profile) (value meant : List ℕ) (word : EncodedWord) (n : ℕ) → 0 < length value → Some word ≡ word_at value → Some meant ≡ meaning profile word → n ≡ length word.charset + length word.text + 7 → pieces_of profile value ≡ replaced word meant ∷ pieces_of profile (drop n value)
decoded_at profile [] meant word n some is means count = absurd (omega arith)
decoded_at profile (c ∷ rest) meant word n some is means count =
    let same : suc (length word.charset + length word.text + 6) ≡ n = omega arith in
    pieces-sequence (replaced_at profile) further c rest (record { word = word; octets = meant }) (ap (with_meaning profile) (sym is) ∙ ap (by_meaning word) (sym means))
    ∙ ap (λ n. replaced word meant ∷ pieces_of profile (drop n (c ∷ rest))) same

-- octets that stand for themselves, and the pieces after them
abbrev pub put_before : List ℕ → List ValuePiece → List ValuePiece
put_before octets pieces = map octet octets ++ pieces

plain_next : (profile : Profile) (left : List ℕ) (plain : ℕ) → plain < length left → pieces_of profile (drop plain left) ≡ octet (get_or (drop plain left) 0 0) ∷ pieces_of profile (drop 1 (drop plain left)) → put_before (take (suc plain) left) (pieces_of profile (drop (suc plain) left)) ≡ put_before (take plain left) (pieces_of profile (drop plain left))
plain_next profile [] plain within is = absurd (omega arith)
plain_next profile (c ∷ rest) zero within is = sym is
plain_next profile (c ∷ rest) (suc plain) within is = ap (λ pieces. octet c ∷ pieces) (plain_next profile rest plain (omega arith) is)

pub plain_step : (profile : Profile) (left : List ℕ) (plain : ℕ) (whole : List ValuePiece) → plain < length left → pieces_of profile (drop plain left) ≡ octet (get_or (drop plain left) 0 0) ∷ pieces_of profile (drop 1 (drop plain left)) → put_before (take plain left) (pieces_of profile (drop plain left)) ≡ whole → put_before (take (plain + 1) left) (pieces_of profile (drop (plain + 1) left)) ≡ whole
plain_step profile left plain whole within is so_far = rw add-one (plain_next profile left plain within is ∙ so_far)

pub word_step : (profile : Profile) (gap rest after meant : List ℕ) (word : EncodedWord) (n : ℕ) (whole : List ValuePiece) → 0 < length rest → Some word ≡ word_at rest → Some meant ≡ meaning profile word → n ≡ length word.charset + length word.text + 7 → after ≡ drop n rest → put_before gap (pieces_of profile rest) ≡ whole → whole ≡ put_before gap (replaced word meant ∷ pieces_of profile after)
word_step profile gap rest after meant word n whole some is means count after_is so_far =
    sym so_far
    ∙ ap (put_before gap) (decoded_at profile rest meant word n some is means count)
    ∙ ap (λ one. put_before gap (replaced word meant ∷ pieces_of profile one)) (sym after_is)

pub all_alone : (profile : Profile) (left : List ℕ) (plain : ℕ) → length left ≤ plain → put_before (take plain left) (pieces_of profile (drop plain left)) ≡ pieces_of profile left → pieces_of profile left ≡ map octet left
unfolding pieces_from
all_alone profile left plain ended is =
    sym is
    ∙ ap (λ one. put_before one (pieces_of profile (drop plain left))) (take_all plain left ended)
    ∙ ap (λ one. put_before left (pieces_of profile one)) (drop_of_length-le left ended)
    ∙ append-nil (map octet left)

-- octets before the first `=`

sign_here : (c : ℕ) (rest : List ℕ) → (c == octet_of "=") ≡ false → None ≡ word_at (c ∷ rest)
unfolding word_at
sign_here c [] other = refl
sign_here c (d ∷ rest) other = rw other refl

sign_after : (c : ℕ) (rest : List ℕ) (n : ℕ) → Nowhere (Passes (is_byte (octet_of "=")) (c ∷ rest)) 0 (suc n) → Nowhere (Passes (is_byte (octet_of "=")) rest) 0 n
sign_after c rest n nowhere k low high passes = nowhere (suc k) (omega arith) (omega arith) passes

pub signs_alone : (profile : Profile) (value : List ℕ) (n : ℕ) → n ≤ length value → Nowhere (Passes (is_byte (octet_of "=")) value) 0 n → put_before (take n value) (pieces_of profile (drop n value)) ≡ pieces_of profile value
signs_alone profile [] zero within nowhere = refl
signs_alone profile [] (suc n) within nowhere = absurd (omega arith)
signs_alone profile (c ∷ rest) zero within nowhere = refl
signs_alone profile (c ∷ rest) (suc n) within nowhere =
    let other : (c == octet_of "=") ≡ false = false_from_ne_true (c == octet_of "=") (λ is. nowhere 0 (omega arith) (omega arith) is) in
    ap (λ pieces. octet c ∷ pieces) (signs_alone profile rest n (omega arith) (sign_after c rest n nowhere))
    ∙ sym (none_at profile (c ∷ rest) (omega arith) (sign_here c rest other))

-- no `=` stands before the one that a search found, or before the end where it found none
pub front_of : (value : List ℕ) (found : Option ℕ) → IsFirstByte (is_byte (octet_of "=")) value found → (unwrap_or found (length value) ≤ length value) × Nowhere (Passes (is_byte (octet_of "=")) value) 0 (unwrap_or found (length value))
front_of value None nowhere = (omega arith, nowhere)
front_of value (Some n) (first, here) = (omega (arith, first.high), first.before)

-- the octets that pieces stand for

leads_gap : (gap meant : List ℕ) (word : EncodedWord) (pieces : List ValuePiece) → leads_to_word (put_before gap (replaced word meant ∷ pieces)) ≡ list_all is_blank gap
leads_gap [] meant word pieces = refl
leads_gap (c ∷ gap) meant word pieces = ap (λ b. is_blank c && b) (leads_gap gap meant word pieces)

gap_step : (after_word blank all : Bool) (c : ℕ) (gap : List ℕ) (rest true_rest false_rest : List ℕ) → true_rest ≡ cond all [] gap ++ rest → false_rest ≡ gap ++ rest → cond (after_word && (blank && all)) true_rest (c ∷ false_rest) ≡ cond (after_word && (blank && all)) [] (c ∷ gap) ++ rest
gap_step true true true c gap rest true_rest false_rest dropped stays = dropped
gap_step true true false c gap rest true_rest false_rest dropped stays = ap (λ octets. c ∷ octets) stays
gap_step true false all c gap rest true_rest false_rest dropped stays = ap (λ octets. c ∷ octets) stays
gap_step false blank all c gap rest true_rest false_rest dropped stays = ap (λ octets. c ∷ octets) stays

pub joined_gap : (after_word : Bool) (gap meant : List ℕ) (word : EncodedWord) (pieces : List ValuePiece) → joined after_word (put_before gap (replaced word meant ∷ pieces)) ≡ kept after_word gap ++ (meant ++ joined true pieces)
joined_gap true [] meant word pieces = refl
joined_gap false [] meant word pieces = refl
joined_gap after_word (c ∷ gap) meant word pieces =
    let further = put_before gap (replaced word meant ∷ pieces) in
    ap (λ b. cond (after_word && (is_blank c && b)) (joined true further) (c ∷ joined false further)) (leads_gap gap meant word pieces)
    ∙ gap_step after_word (is_blank c) (list_all is_blank gap) c gap (meant ++ joined true pieces) (joined true further) (joined false further)
    (joined_gap true gap meant word pieces) (joined_gap false gap meant word pieces)

pub word_decoded : (done next gap meant : List ℕ) (after_word : Bool) (word : EncodedWord) (left pieces : List ValuePiece) (whole : List ℕ) → next ≡ done ++ (kept after_word gap ++ meant) → left ≡ put_before gap (replaced word meant ∷ pieces) → done ++ joined after_word left ≡ whole → next ++ joined true pieces ≡ whole
word_decoded done next gap meant after_word word left pieces whole next_is left_is so_far =
    ap (λ octets. octets ++ joined true pieces) next_is
    ∙ append_assoc done (kept after_word gap ++ meant) (joined true pieces)
    ∙ ap (λ octets. done ++ octets) (append_assoc (kept after_word gap) meant (joined true pieces))
    ∙ ap (λ octets. done ++ octets) (sym (joined_gap after_word gap meant word pieces))
    ∙ ap (λ pieces. done ++ joined after_word pieces) (sym left_is)
    ∙ so_far

no_further : (octets : List ℕ) → leads_to_word (map octet octets) ≡ false
no_further [] = refl
no_further (c ∷ octets) = ap (λ b. is_blank c && b) (no_further octets) ∙ never (is_blank c)
  where
    never : (b : Bool) → (b && false) ≡ false
    never true = refl
    never false = refl

stays_step : (after_word blank : Bool) (dropped stays : List ℕ) → cond (after_word && (blank && false)) dropped stays ≡ stays
stays_step true true dropped stays = refl
stays_step true false dropped stays = refl
stays_step false blank dropped stays = refl

pub joined_octets : (after_word : Bool) (octets : List ℕ) → joined after_word (map octet octets) ≡ octets
joined_octets after_word [] = refl
joined_octets after_word (c ∷ octets) =
    let further = map octet octets in
    ap (λ b. cond (after_word && (is_blank c && b)) (joined true further) (c ∷ joined false further)) (no_further octets)
    ∙ stays_step after_word (is_blank c) (joined true further) (c ∷ joined false further)
    ∙ ap (λ octets. c ∷ octets) (joined_octets false octets)

pub last_decoded : (done left whole : List ℕ) (after_word : Bool) (pieces : List ValuePiece) → pieces ≡ map octet left → done ++ joined after_word pieces ≡ whole → done ++ left ≡ whole
last_decoded done left whole after_word pieces is so_far =
    ap (λ octets. done ++ octets) (sym (joined_octets after_word left))
    ∙ ap (λ pieces. done ++ joined after_word pieces) (sym is)
    ∙ so_far

-- whether a word was replaced

any_before : (gap meant : List ℕ) (word : EncodedWord) (pieces : List ValuePiece) → list_any is_word (put_before gap (replaced word meant ∷ pieces)) ≡ true
any_before [] meant word pieces = refl
any_before (c ∷ gap) meant word pieces = any_before gap meant word pieces

or_true : (b : Bool) → (b || true) ≡ true
or_true true = refl
or_true false = refl

pub word_found : (before whole : Bool) (gap meant : List ℕ) (word : EncodedWord) (left pieces : List ValuePiece) → left ≡ put_before gap (replaced word meant ∷ pieces) → (before || list_any is_word left) ≡ whole → true ≡ whole
word_found before whole gap meant word left pieces is so_far =
    sym (or_true before)
    ∙ ap (λ b. before || b) (sym (any_before gap meant word pieces))
    ∙ ap (λ pieces. before || list_any is_word pieces) (sym is)
    ∙ so_far

pub none_found : (octets : List ℕ) → list_any is_word (map octet octets) ≡ false
none_found [] = refl
none_found (c ∷ octets) = none_found octets

-- whether a word of a known charset is written

or_first : (a b : Bool) → (a || b) ≡ false → a ≡ false
or_first true b is = absurd cc
or_first false b is = refl

or_last : (a b : Bool) → (a || b) ≡ false → b ≡ false
or_last true b is = absurd cc
or_last false b is = is

known_after : (profile : Profile) (left : List ℕ) (plain : ℕ) → plain < length left → has_known profile (drop plain left) ≡ false → has_known profile (drop (suc plain) left) ≡ false
unfolding has_known
known_after profile [] plain within none = absurd (omega arith)
known_after profile (c ∷ rest) zero within none = or_last (is_known profile (word_at (c ∷ rest))) (has_known profile rest) none
known_after profile (c ∷ rest) (suc plain) within none = known_after profile rest plain (omega arith) none

pub known_next : (profile : Profile) (left : List ℕ) (plain : ℕ) → plain < length left → has_known profile (drop plain left) ≡ false → has_known profile (drop (plain + 1) left) ≡ false
known_next profile left plain within none = rw add-one (known_after profile left plain within none)

pub known_from : (profile : Profile) (left : List ℕ) (n : ℕ) → n ≤ length left → has_known profile left ≡ false → has_known profile (drop n left) ≡ false
unfolding has_known
known_from profile [] zero within none = none
known_from profile [] (suc n) within none = absurd (omega arith)
known_from profile (c ∷ rest) zero within none = none
known_from profile (c ∷ rest) (suc n) within none = known_from profile rest n (omega arith) (or_last (is_known profile (word_at (c ∷ rest))) (has_known profile rest) none)

not_there : (found : Option Charset) → is_some found ≡ false → found ≡ None
not_there None none = refl
not_there (Some charset) none = absurd cc

-- where no word of a known charset is written, the charset of a word at the start isn't known
pub unknown_here : (profile : Profile) (rest : List ℕ) (word : EncodedWord) → Some word ≡ word_at rest → has_known profile rest ≡ false → charset_named profile word.charset ≡ None
unfolding has_known word_at
unknown_here profile [] word is none = absurd cc
unknown_here profile (c ∷ rest) word is none =
    not_there (charset_named profile word.charset) (ap (is_known profile) is ∙ or_first (is_known profile (word_at (c ∷ rest))) (has_known profile rest) none)

-- where no word of a known charset is written, a word at the start stands for nothing
pub unknown_means : (profile : Profile) (rest meant : List ℕ) (word : EncodedWord) → Some word ≡ word_at rest → Some meant ≡ meaning profile word → has_known profile rest ≡ false → ⊥
unfolding meaning
unknown_means profile rest meant word is means none =
    let nothing : Some meant ≡ None =
    means ∙ ap (λ found. option_and_then (λ charset. option_and_then (in_utf8 charset) (octets_in word)) found) (unknown_here profile rest word is none) in
    cc

-- values in which no word is replaced, and those in which one is

unchanged_pieces : (profile : Profile) (pieces : List ValuePiece) (value : List ℕ) → CutsWords profile pieces value → list_any is_word pieces ≡ false → joined false pieces ≡ value
unchanged_pieces profile [] value is none = sym is
unchanged_pieces profile (sequence found ∷ pieces) value cut none = absurd cc
unchanged_pieces profile (octet c ∷ pieces) value (nowhere, rest, is, cut) none =
    ap (λ octets. c ∷ octets) (unchanged_pieces profile pieces rest cut none) ∙ sym is

pub unchanged : (profile : Profile) (value : List ℕ) → has_word profile value ≡ false → decoded_of profile value ≡ value
unchanged profile value none = unchanged_pieces profile (pieces_of profile value) value (cuts_from (finds profile) 0 value) none

none_step : (profile : Profile) (value : List ℕ) (b : Bool) → None ≡ cond b (Some (decoded_of profile value)) None → b ≡ false
none_step profile value true is = absurd cc
none_step profile value false is = refl

pub none_replaced : (profile : Profile) (value : List ℕ) → None ≡ replaced_of profile value → has_word profile value ≡ false
none_replaced profile value is = none_step profile value (has_word profile value) is

some_step : (profile : Profile) (value octets : List ℕ) (b : Bool) → Some octets ≡ cond b (Some (decoded_of profile value)) None → (b ≡ true) × (octets ≡ decoded_of profile value)
some_step profile value octets true is = (refl, cc)
some_step profile value octets false is = absurd cc

pub some_replaced : (profile : Profile) (value octets : List ℕ) → Some octets ≡ replaced_of profile value → (has_word profile value ≡ true) × (octets ≡ decoded_of profile value)
some_replaced profile value octets is = some_step profile value octets (has_word profile value) is
