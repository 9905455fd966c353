-- The references and the parts of a text, piece by piece.
use Rattle.std.proofs.Common.{◌≡◌, ℕ, zero, suc, ◌+◌, ◌<◌, ◌≤◌, Bool, true, false, ◌||◌, not, cond, List, [], ◌∷◌, ◌++◌, length, take, drop, Option, None, Some, refl, sym, ◌∙◌, ap, append_assoc, arith}
use Rattle.std.specs.List.{list_any}
use Rattle.std.proofs.Math.Seq.{take-add, take-append_seam}
use Rattle.std.proofs.lemmas.Bool.{false≢true}
use Rattle.std.proofs.lemmas.List.{drop-drop}
use Rattle.sieve_variables.specs.Name.{folded_name, index_of, is_identifier}
use Rattle.sieve_variables.specs.Part.{Part, global_part, grouped, is_shared, literal, local_part, match_part, octet_before, part_of_words, variable_part}
use Rattle.text_cut.specs.Cut.{octet}
use Rattle.text_cut.specs.Scan.{pieces_from}
use Rattle.sieve_variables.specs.Reference.{ReferencePiece, reference, written}
use Rattle.sieve_variables.specs.Scan.{has_reference, inside_at, is_foreign, is_reference, parts_of_text, pieces_of, words_of}
use Rattle.sieve_variables.specs.Variable.{Variable, global_variable, local_variable}
use Rattle.sieve_variables.specs.view.Part.{added, literal_part}
use Rattle.sieve_variables.proofs.Cut.{inside_written, length-written, pieces-octet, pieces-reference}
use Rattle.sieve_variables.proofs.Words.{some_words}

-- whether a piece of a text passes a test, found piece by piece

none_at_end : inside_at [] ≡ None
unfolding inside_at
none_at_end = refl

or_or : (a b more all : Bool) → (a || (b || more)) ≡ all → ((a || b) || more) ≡ all
or_or true b more all is = is
or_or false b more all is = is

pub true_once : (a more all : Bool) → ((a || true) || more) ≡ all → true ≡ all
true_once true more all is = is
true_once false more all is = is

any_octet : (p : ReferencePiece → Bool) → ((c : ℕ) → p (octet c) ≡ false) → (text : List ℕ) → 0 < length text → None ≡ inside_at text → list_any p (pieces_of text) ≡ list_any p (pieces_of (drop 1 text))
any_octet p never [] some none = absurd (omega arith)
any_octet p never (c ∷ rest) some none =
    ap (list_any p) (pieces-octet c rest (sym none)) ∙ ap (λ b. b || list_any p (pieces_of rest)) (never c)

any_reference : (p : ReferencePiece → Bool) (text inside : List ℕ) → Some inside ≡ inside_at text → list_any p (pieces_of text) ≡ (p (reference (words_of inside)) || list_any p (pieces_of (drop (3 + length inside) text)))
any_reference p [] inside found =
    let none = none_at_end in absurd cc
any_reference p (c ∷ rest) inside found =
    let same : 3 + length inside ≡ suc (length inside + 2) = omega arith in
    ap (list_any p) (pieces-reference c rest inside (sym found))
    ∙ ap (λ n. p (reference (words_of inside)) || list_any p (pieces_of (drop n (c ∷ rest)))) (sym same)

pub passed_octet : (p : ReferencePiece → Bool) → ((c : ℕ) → p (octet c) ≡ false) → (text after : List ℕ) (found all : Bool) → 0 < length text → None ≡ inside_at text → after ≡ drop 1 text → (found || list_any p (pieces_of text)) ≡ all → (found || list_any p (pieces_of after)) ≡ all
passed_octet p never text after found all some none is so_far =
    ap (λ one. found || list_any p (pieces_of one)) is
    ∙ ap (λ b. found || b) (sym (any_octet p never text some none))
    ∙ so_far

pub passed_reference : (p : ReferencePiece → Bool) (text inside after : List ℕ) (found said all : Bool) → Some inside ≡ inside_at text → said ≡ p (reference (words_of inside)) → after ≡ drop (3 + length inside) text → (found || list_any p (pieces_of text)) ≡ all → ((found || said) || list_any p (pieces_of after)) ≡ all
passed_reference p text inside after found said all reads says is so_far =
    ap (λ b. (found || b) || list_any p (pieces_of after)) says
    ∙ ap (λ one. (found || p (reference (words_of inside))) || list_any p (pieces_of one)) is
    ∙ or_or found (p (reference (words_of inside))) (list_any p (pieces_of (drop (3 + length inside) text))) all
    (ap (λ b. found || b) (sym (any_reference p text inside reads)) ∙ so_far)

or_false : (a all : Bool) → (a || false) ≡ all → a ≡ all
or_false true all is = is
or_false false all is = is

pub passed_all : (p : ReferencePiece → Bool) (rest : List ℕ) (found all : Bool) → length rest ≡ 0 → (found || list_any p (pieces_of rest)) ≡ all → found ≡ all
unfolding pieces_from
passed_all p [] found all ended is = or_false found all is
passed_all p (c ∷ rest) found all ended is = absurd (omega arith)

-- parts with octets before them
abbrev pub put_before : List ℕ → List Part → List Part
put_before [] parts = parts
put_before (c ∷ octets) parts = octet_before c (put_before octets parts)

pub plain_step : (left : List ℕ) (plain : ℕ) → plain < length left → None ≡ inside_at (drop plain left) → put_before (take (suc plain) left) (parts_of_text (drop (suc plain) left)) ≡ put_before (take plain left) (parts_of_text (drop plain left))
plain_step [] plain within none = absurd (omega arith)
plain_step (c ∷ rest) zero within none = ap grouped (sym (pieces-octet c rest (sym none)))
plain_step (c ∷ rest) (suc plain) within none = ap (octet_before c) (plain_step rest plain (omega arith) none)

literal_more : (c : ℕ) (octets : List ℕ) → octet_before c (literal_part octets) ≡ literal (c ∷ octets) ∷ []
literal_more c [] = refl
literal_more c (d ∷ octets) = refl

none_left : parts_of_text [] ≡ []
unfolding pieces_from
none_left = refl

-- a text without a reference is one literal, or no part where it is empty
pub plain_parts : (text : List ℕ) → has_reference text ≡ false → parts_of_text text ≡ literal_part text
plain_parts [] none = none_left
plain_parts (c ∷ rest) none = by_first (inside_at (c ∷ rest)) refl (plain_parts rest)
  where
    by_first : (found : Option (List ℕ)) → inside_at (c ∷ rest) ≡ found → (has_reference rest ≡ false → parts_of_text rest ≡ literal_part rest) → parts_of_text (c ∷ rest) ≡ literal_part (c ∷ rest)
    by_first None is after =
        let cut = pieces-octet c rest is in
        ap grouped cut ∙ ap (octet_before c) (after (sym (ap (list_any is_reference) cut) ∙ none)) ∙ literal_more c rest
    by_first (Some inside) is after = absurd (false≢true (sym none ∙ ap (list_any is_reference) (pieces-reference c rest inside is)))

pub last_step : (left : List ℕ) (plain : ℕ) → length left ≤ plain → put_before (take plain left) (parts_of_text (drop plain left)) ≡ literal_part left
last_step [] zero ended = none_left
last_step [] (suc plain) ended = none_left
last_step (c ∷ rest) zero ended = absurd (omega arith)
last_step (c ∷ rest) (suc plain) ended = ap (octet_before c) (last_step rest plain (omega arith)) ∙ literal_more c rest

put_before-variable : (octets : List ℕ) (variable : Variable) (parts : List Part) → put_before octets (variable_part variable ∷ parts) ≡ literal_part octets ++ variable_part variable ∷ parts
put_before-variable [] variable parts = refl
put_before-variable (c ∷ []) variable parts = refl
put_before-variable (c ∷ d ∷ octets) variable parts = ap (octet_before c) (put_before-variable (d ∷ octets) variable parts)

put_before-match : (octets : List ℕ) (index : ℕ) (parts : List Part) → put_before octets (match_part index ∷ parts) ≡ literal_part octets ++ match_part index ∷ parts
put_before-match [] index parts = refl
put_before-match (c ∷ []) index parts = refl
put_before-match (c ∷ d ∷ octets) index parts = ap (octet_before c) (put_before-match (d ∷ octets) index parts)

put_before-literal : (octets further : List ℕ) (parts : List Part) → put_before octets (literal further ∷ parts) ≡ literal (octets ++ further) ∷ parts
put_before-literal [] further parts = refl
put_before-literal (c ∷ octets) further parts = ap (octet_before c) (put_before-literal octets further parts)

word_before : (octets word : List ℕ) (parts : List Part) (b : Bool) → put_before octets (cond b (local_part (folded_name word)) (match_part (index_of word)) ∷ parts) ≡ literal_part octets ++ cond b (local_part (folded_name word)) (match_part (index_of word)) ∷ parts
word_before octets word parts true = put_before-variable octets (local_variable (folded_name word)) parts
word_before octets word parts false = put_before-match octets (index_of word) parts

shared_before : (octets namespace name : List ℕ) (parts : List Part) (b : Bool) → not b ≡ false
    → put_before octets (cond b (global_part (folded_name name)) (literal (written (namespace ∷ name ∷ []))) ∷ parts)
    ≡ literal_part octets ++ cond b (global_part (folded_name name)) (literal (written (namespace ∷ name ∷ []))) ∷ parts
shared_before octets namespace name parts true own = put_before-variable octets (global_variable (folded_name name)) parts
shared_before octets namespace name parts false own = absurd (false≢true (sym own))

-- a part that is no refused reference comes after the literal of the octets before it
own_before : (octets : List ℕ) (words : List (List ℕ)) (parts : List Part) → 0 < length words → is_foreign (reference words) ≡ false
    → put_before octets (part_of_words words ∷ parts) ≡ literal_part octets ++ part_of_words words ∷ parts
own_before octets [] parts some own = absurd (omega arith)
own_before octets (word ∷ []) parts some own = word_before octets word parts (is_identifier word)
own_before octets (namespace ∷ name ∷ []) parts some own = shared_before octets namespace name parts (is_shared namespace name) own
own_before octets (namespace ∷ word ∷ next ∷ words) parts some own = absurd (false≢true (sym own))

shared_or_written : (namespace name : List ℕ) (b : Bool) → not b ≡ true
    → cond b (global_part (folded_name name)) (literal (written (namespace ∷ name ∷ []))) ≡ literal (written (namespace ∷ name ∷ []))
shared_or_written namespace name true foreign = absurd (false≢true foreign)
shared_or_written namespace name false foreign = refl

-- a refused reference stands as it is written
foreign_part : (words : List (List ℕ)) → is_foreign (reference words) ≡ true → part_of_words words ≡ literal (written words)
foreign_part [] foreign = absurd (false≢true foreign)
foreign_part (word ∷ []) foreign = absurd (false≢true foreign)
foreign_part (namespace ∷ name ∷ []) foreign = shared_or_written namespace name (is_shared namespace name) foreign
foreign_part (namespace ∷ word ∷ next ∷ words) foreign = refl

literal_written : (octets : List ℕ) (words : List (List ℕ)) → literal_part (octets ++ written words) ≡ literal (octets ++ written words) ∷ []
literal_written [] words = refl
literal_written (c ∷ octets) words = refl

take_more : (left : List ℕ) (plain n : ℕ) (further rest : List ℕ) → drop plain left ≡ further ++ rest → n ≡ plain + length further → take n left ≡ take plain left ++ further
take_more left plain n further rest is same =
    ap (λ m. take m left) same
    ∙ take-add plain (length further) left
    ∙ ap (λ text. take plain left ++ take (length further) text) is
    ∙ ap (λ text. take plain left ++ text) (take-append_seam further rest)

reference_at : (text inside : List ℕ) → Some inside ≡ inside_at text → parts_of_text text ≡ part_of_words (words_of inside) ∷ parts_of_text (drop (suc (length inside + 2)) text)
reference_at [] inside found = let none = none_at_end in absurd cc
reference_at (c ∷ rest) inside found = ap grouped (pieces-reference c rest inside (sym found))

added_step : (octets all inside : List ℕ) (parts : List Part) (b : Bool) → is_foreign (reference (words_of inside)) ≡ b → all ≡ octets ++ written (words_of inside) → put_before octets (part_of_words (words_of inside) ∷ parts) ≡ cond b (literal_part all) (literal_part octets ++ part_of_words (words_of inside) ∷ []) ++ parts
added_step octets all inside parts true foreign is =
    ap (λ part. put_before octets (part ∷ parts)) (foreign_part (words_of inside) foreign)
    ∙ put_before-literal octets (written (words_of inside)) parts
    ∙ ap (λ first. first ++ parts) (sym (literal_written octets (words_of inside)))
    ∙ ap (λ one. literal_part one ++ parts) (sym is)
added_step octets all inside parts false own is =
    own_before octets (words_of inside) parts (some_words inside) own
    ∙ sym (append_assoc (literal_part octets) (part_of_words (words_of inside) ∷ []) parts)

pub reference_step : (left : List ℕ) (plain n : ℕ) (inside : List ℕ) → Some inside ≡ inside_at (drop plain left) → n ≡ plain + (length inside + 3) → put_before (take plain left) (parts_of_text (drop plain left)) ≡ added inside (take plain left) (take n left) ++ parts_of_text (drop n left)
reference_step left plain n inside found same =
    let text = drop plain left in
    let sum : n ≡ plain + length (written (words_of inside)) = omega (arith, length-written inside) in
    let all : take n left ≡ take plain left ++ written (words_of inside) =
    take_more left plain n (written (words_of inside)) (drop (suc (length inside)) (drop 2 text)) (inside_written text inside (sym found)) sum in
    let count : plain + suc (length inside + 2) ≡ n = omega arith in
    let after : drop (suc (length inside + 2)) text ≡ drop n left =
    drop-drop (suc (length inside + 2)) plain left ∙ ap (λ m. drop m left) count in
    ap (put_before (take plain left)) (reference_at text inside found)
    ∙ added_step (take plain left) (take n left) inside (parts_of_text (drop (suc (length inside + 2)) text)) (is_foreign (reference (words_of inside))) refl all
    ∙ ap (λ one. added inside (take plain left) (take n left) ++ parts_of_text one) after

pub parts_step : (done next : List Part) (left : List ℕ) (plain n : ℕ) (inside octets all after : List ℕ) (whole : List Part) → Some inside ≡ inside_at (drop plain left) → n ≡ plain + (length inside + 3) → next ≡ done ++ added inside octets all → octets ≡ take plain left → all ≡ take n left → after ≡ drop n left → done ++ put_before (take plain left) (parts_of_text (drop plain left)) ≡ whole → next ++ parts_of_text after ≡ whole
parts_step done next left plain n inside octets all after whole found same next_is octets_is all_is after_is so_far =
    ap (λ one. one ++ parts_of_text after) next_is
    ∙ ap (λ one. (done ++ added inside one all) ++ parts_of_text after) octets_is
    ∙ ap (λ one. (done ++ added inside (take plain left) one) ++ parts_of_text after) all_is
    ∙ ap (λ one. (done ++ added inside (take plain left) (take n left)) ++ parts_of_text one) after_is
    ∙ append_assoc done (added inside (take plain left) (take n left)) (parts_of_text (drop n left))
    ∙ ap (λ further. done ++ further) (sym (reference_step left plain n inside found same))
    ∙ so_far
