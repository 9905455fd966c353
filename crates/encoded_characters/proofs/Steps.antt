-- Steps of reading a text.
use Rattle.std.proofs.Common.{◌≡◌, ℕ, suc, ◌+◌, ◌<◌, Bool, true, false, cond, List, [], ◌∷◌, ◌++◌, length, take, drop, Option, None, Some, is_some, refl, sym, ◌∙◌, ap, append-nil, arith}
use Rattle.std.specs.List.{list_any, prefix_len}
use Rattle.std.specs.Option.{option_map}
use Rattle.std.proofs.lemmas.List.Folds.{length-prefix_len}
use Rattle.text_cut.proofs.Cut.{cuts_from, pieces-octet, pieces-sequence}
use Rattle.text_cut.specs.Cut.{octet, sequence}
use Rattle.text_cut.specs.Scan.{pieces_from}
use Rattle.encoded_characters.proofs.Found.{finds}
use Rattle.encoded_characters.proofs.Items.{written_again}
use Rattle.encoded_characters.proofs.Values.{grown_more, grown_none}
use Rattle.encoded_characters.specs.Cut.{CutsEncoded, EncodedPiece, octets_of_pieces}
use Rattle.encoded_characters.specs.Scan.{characters_replaced, further, has_sequence, inside_of, is_sequence, may_stand, pieces_of, run, sequence_at}
use Rattle.encoded_characters.specs.Sequence.{EncodedSequence}
use Rattle.encoded_characters.specs.Value.{octets_before, octets_of_sequence}
use Rattle.encoded_characters.specs.view.Sequence.{grown, if_right}

pub run_len : (octets : List ℕ) → length (run octets) ≡ prefix_len may_stand octets
run_len octets = length-prefix_len may_stand octets

-- a text that begins with no sequence, and one that begins with one

replaced_octet : (text : List ℕ) → 0 < length text → None ≡ sequence_at text → characters_replaced text ≡ octets_before (Some (take 1 text)) (characters_replaced (drop 1 text))
replaced_octet [] some none = absurd (omega arith)
replaced_octet (c ∷ rest) some none = ap octets_of_pieces (pieces-octet sequence_at further c rest (sym none))

replaced_sequence : (text : List ℕ) (s : EncodedSequence) (n : ℕ) → Some s ≡ sequence_at text → n ≡ suc (further s) → characters_replaced text ≡ octets_before (octets_of_sequence s) (characters_replaced (drop n text))
unfolding sequence_at
replaced_sequence [] s n found count = absurd cc
replaced_sequence (c ∷ rest) s n found count =
    ap octets_of_pieces (pieces-sequence sequence_at further c rest s (sym found))
    ∙ ap (λ m. octets_before (octets_of_sequence s) (characters_replaced (drop m (c ∷ rest)))) (sym count)

-- the number of octets of a sequence, by those between its `:` and `}`
count_of : (word octets : List ℕ) (n : ℕ) → n ≡ length word + length octets + 4 → n ≡ suc (further (record { word = word; inside = inside_of octets }))
count_of word octets n is = omega (arith, ap length (written_again octets))

pub octet_step : (done next left after octets : List ℕ) (whole : Option (List ℕ)) → 0 < length left → None ≡ sequence_at left → octets ≡ take 1 left → after ≡ drop 1 left → next ≡ done ++ octets → grown done (characters_replaced left) ≡ whole → grown next (characters_replaced after) ≡ whole
octet_step done next left after octets whole some none octets_is after_is next_is so_far =
    ap (λ one. grown next (characters_replaced one)) after_is
    ∙ grown_more done next (Some (take 1 left)) (characters_replaced (drop 1 left)) whole (ap Some (next_is ∙ ap (λ one. done ++ one) octets_is))
    (ap (grown done) (sym (replaced_octet left some none)) ∙ so_far)

pub sequence_step : (done next left after word octets : List ℕ) (n : ℕ) (pushed : Bool) (whole : Option (List ℕ)) → pushed ≡ true → Some (record { word = word; inside = inside_of octets }) ≡ sequence_at left → n ≡ length word + length octets + 4 → after ≡ drop n left
    → if_right pushed next ≡ grown done (octets_of_sequence (record { word = word; inside = inside_of octets })) → grown done (characters_replaced left) ≡ whole → grown next (characters_replaced after) ≡ whole
sequence_step done next left after word octets n pushed whole is found count after_is adds so_far =
    let s : EncodedSequence = record { word = word; inside = inside_of octets } in
    ap (λ one. grown next (characters_replaced one)) after_is
    ∙ grown_more done next (octets_of_sequence s) (characters_replaced (drop n left)) whole (ap (λ b. cond b (Some next) None) (sym is) ∙ adds)
    (ap (grown done) (sym (replaced_sequence left s n found (count_of word octets n count))) ∙ so_far)

pub bad_step : (done next left word octets : List ℕ) (pushed : Bool) (whole : Option (List ℕ)) → pushed ≡ false → Some (record { word = word; inside = inside_of octets }) ≡ sequence_at left
    → if_right pushed next ≡ grown done (octets_of_sequence (record { word = word; inside = inside_of octets })) → grown done (characters_replaced left) ≡ whole → None ≡ whole
bad_step done next left word octets pushed whole is found adds so_far =
    let s : EncodedSequence = record { word = word; inside = inside_of octets } in
    let n = length word + length octets + 4 in
    grown_none done (octets_of_sequence s) (characters_replaced (drop n left)) whole (ap (λ b. cond b (Some next) None) (sym is) ∙ adds)
    (ap (grown done) (sym (replaced_sequence left s n found (count_of word octets n refl))) ∙ so_far)

or_nothing : (octets : List ℕ) → Some octets ≡ grown octets (Some [])
or_nothing octets = ap Some (sym (append-nil octets))

pub last_step : (done left : List ℕ) (whole : Option (List ℕ)) → length left ≡ 0 → grown done (characters_replaced left) ≡ whole → Some done ≡ whole
unfolding pieces_from
last_step done [] whole ended so_far = or_nothing done ∙ so_far
last_step done (c ∷ left) whole ended so_far = absurd (omega arith)

-- whether a text has a sequence

pub passed_octet : (text after : List ℕ) → 0 < length text → None ≡ sequence_at text → after ≡ drop 1 text → has_sequence text ≡ has_sequence after
passed_octet [] after some none is = absurd (omega arith)
passed_octet (c ∷ rest) after some none is =
    ap (list_any is_sequence) (pieces-octet sequence_at further c rest (sym none)) ∙ ap has_sequence (sym is)

pub found_sequence : (text : List ℕ) (s : EncodedSequence) → Some s ≡ sequence_at text → has_sequence text ≡ true
unfolding sequence_at
found_sequence [] s found = absurd cc
found_sequence (c ∷ rest) s found = ap (list_any is_sequence) (pieces-sequence sequence_at further c rest s (sym found))

pub none_at_all : (text : List ℕ) → length text ≡ 0 → has_sequence text ≡ false
unfolding pieces_from
none_at_all [] ended = refl
none_at_all (c ∷ rest) ended = absurd (omega arith)

-- a text without sequences stands for itself

unchanged_pieces : (pieces : List EncodedPiece) (text : List ℕ) → CutsEncoded pieces text → list_any is_sequence pieces ≡ false → octets_of_pieces pieces ≡ Some text
unchanged_pieces [] text is none = ap Some (sym is)
unchanged_pieces (sequence s ∷ pieces) text cut none = absurd cc
unchanged_pieces (octet c ∷ pieces) text (nowhere, rest, is, cut) none =
    ap (octets_before (Some (c ∷ []))) (unchanged_pieces pieces rest cut none) ∙ ap Some (sym is)

pub unchanged : (text : List ℕ) → has_sequence text ≡ false → characters_replaced text ≡ Some text
unchanged text none = unchanged_pieces (pieces_of text) text (cuts_from finds 0 text) none

-- whether a sequence is found, by the program's sequence

pub some_found : {X : Type 0} (shown : X → EncodedSequence) (found : Option X) (text : List ℕ) → option_map shown found ≡ sequence_at text → is_some found ≡ true → has_sequence text ≡ true
some_found shown None text is some = absurd cc
some_found shown (Some x) text is some = found_sequence text (shown x) is

pub none_found : {X : Type 0} (shown : X → EncodedSequence) (found : Option X) (text : List ℕ) → option_map shown found ≡ sequence_at text → is_some found ≡ false → None ≡ sequence_at text
none_found shown None text is none = is
none_found shown (Some x) text is none = absurd cc
