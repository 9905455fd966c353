-- The words of a reference, and the octets that they are written with.
use Rattle.std.proofs.Common.{◌≡◌, ℕ, zero, suc, ◌<◌, nat_lt, get_or, take, drop, append-nil, Bool, true, false, ◌&&◌, ◌||◌, ◌==◌, not, cond, List, [], ◌∷◌, ◌++◌, length, refl, sym, ◌∙◌, ap, arith}
use Rattle.std.specs.List.{flat_map, list_all, list_any, onto_first}
use Rattle.std.proofs.lemmas.Bool.{false≢true}
use Rattle.std.proofs.lemmas.Bool.Decides.{nat_tests}
use Rattle.std.proofs.lemmas.List.Folds.{list_all-append}
use Rattle.std.proofs.lemmas.List.Splits.{length-slice_split}
use Rattle.octets.specs.Octet.{begins_name, is_digit, is_name_octet, octet_of}
use Rattle.std.specs.Str.{str_eq_ignore_ascii_case}
use Rattle.sieve_variables.specs.Name.{folded_name, global_namespace, index_of, is_identifier, is_number}
use Rattle.sieve_variables.specs.Part.{global_part, is_shared, literal, part_of_words}
use Rattle.sieve_variables.specs.Reference.{dotted, is_legal, is_name, reference, written}
use Rattle.sieve_variables.specs.Scan.{is_dot, is_far, is_foreign, is_inside, words_of}
use Rattle.octets.proofs.Both.{both, first_of_both, last_of_both}

-- the octets between braces

pub not_dot : (c : ℕ) → is_name_octet c ≡ true → is_dot c ≡ false
not_dot c is = grind (arith, nat_tests)

pub not_brace : (c : ℕ) → is_inside c ≡ true → (c == octet_of "}") ≡ false
not_brace c is = grind (arith, nat_tests)

either_inside : (a b : Bool) → a ≡ true → (a || b) ≡ true
either_inside a b is = rw is refl

word_inside : (word : List ℕ) → list_all is_name_octet word ≡ true → list_all is_inside word ≡ true
word_inside [] is = refl
word_inside (c ∷ cs) is =
    both (is_inside c) (list_all is_inside cs)
    (either_inside (is_name_octet c) (is_dot c) (first_of_both (is_name_octet c) (list_all is_name_octet cs) is))
    (word_inside cs (last_of_both (is_name_octet c) (list_all is_name_octet cs) is))

further_inside : (words : List (List ℕ)) → list_all (list_all is_name_octet) words ≡ true → list_all is_inside (flat_map (λ further. octet_of "." ∷ further) words) ≡ true
further_inside [] is = refl
further_inside (word ∷ words) is =
    list_all-append is_inside word (flat_map (λ further. octet_of "." ∷ further) words)
    ∙ both (list_all is_inside word) (list_all is_inside (flat_map (λ further. octet_of "." ∷ further) words))
    (word_inside word (first_of_both (list_all is_name_octet word) (list_all (list_all is_name_octet) words) is))
    (further_inside words (last_of_both (list_all is_name_octet word) (list_all (list_all is_name_octet) words) is))

pub dotted_inside : (words : List (List ℕ)) → list_all (list_all is_name_octet) words ≡ true → list_all is_inside (dotted words) ≡ true
dotted_inside [] is = refl
dotted_inside (word ∷ words) is =
    list_all-append is_inside word (flat_map (λ further. octet_of "." ∷ further) words)
    ∙ both (list_all is_inside word) (list_all is_inside (flat_map (λ further. octet_of "." ∷ further) words))
    (word_inside word (first_of_both (list_all is_name_octet word) (list_all (list_all is_name_octet) words) is))
    (further_inside words (last_of_both (list_all is_name_octet word) (list_all (list_all is_name_octet) words) is))

-- words with dots between them, cut at the dots

split_onto : (c : ℕ) (rest : List ℕ) → is_name_octet c ≡ true → words_of (c ∷ rest) ≡ onto_first c (words_of rest)
split_onto c rest is = ap (λ b. cond b ([] ∷ words_of rest) (onto_first c (words_of rest))) (not_dot c is)

split_at_dot : (word rest : List ℕ) → list_all is_name_octet word ≡ true → words_of (word ++ octet_of "." ∷ rest) ≡ word ∷ words_of rest
split_at_dot [] rest is = refl
split_at_dot (c ∷ cs) rest is =
    split_onto c (cs ++ octet_of "." ∷ rest) (first_of_both (is_name_octet c) (list_all is_name_octet cs) is)
    ∙ ap (onto_first c) (split_at_dot cs rest (last_of_both (is_name_octet c) (list_all is_name_octet cs) is))

split_last : (word : List ℕ) → list_all is_name_octet word ≡ true → words_of (word ++ []) ≡ word ∷ []
split_last [] is = refl
split_last (c ∷ cs) is =
    split_onto c (cs ++ []) (first_of_both (is_name_octet c) (list_all is_name_octet cs) is)
    ∙ ap (onto_first c) (split_last cs (last_of_both (is_name_octet c) (list_all is_name_octet cs) is))

pub words_of-dotted : (words : List (List ℕ)) → 0 < length words → list_all (list_all is_name_octet) words ≡ true → words_of (dotted words) ≡ words
words_of-dotted [] some is = absurd (omega arith)
words_of-dotted (word ∷ []) some is = split_last word (first_of_both (list_all is_name_octet word) true is)
words_of-dotted (word ∷ next ∷ words) some is =
    split_at_dot word (dotted (next ∷ words)) (first_of_both (list_all is_name_octet word) (list_all (list_all is_name_octet) (next ∷ words)) is)
    ∙ ap (λ further. word ∷ further) (words_of-dotted (next ∷ words) (omega arith) (last_of_both (list_all is_name_octet word) (list_all (list_all is_name_octet) (next ∷ words)) is))

dotted-onto : (c : ℕ) (words : List (List ℕ)) → dotted (onto_first c words) ≡ c ∷ dotted words
dotted-onto c [] = refl
dotted-onto c (word ∷ words) = refl

dots_before : (words : List (List ℕ)) → 0 < length words → flat_map (λ further. octet_of "." ∷ further) words ≡ octet_of "." ∷ dotted words
dots_before [] some = absurd (omega arith)
dots_before (word ∷ words) some = refl

dotted_step : (c : ℕ) (rest : List ℕ) (b : Bool) → is_dot c ≡ b → dotted (words_of rest) ≡ rest → dotted (cond b ([] ∷ words_of rest) (onto_first c (words_of rest))) ≡ c ∷ rest
dotted_step c rest true is after =
    let some : 0 < length (words_of rest) = omega (arith, length-slice_split is_dot rest) in
    let dot : c ≡ octet_of "." = grind (arith, nat_tests) in
    dots_before (words_of rest) some ∙ ap (λ further. octet_of "." ∷ further) after ∙ ap (λ first. first ∷ rest) (sym dot)
dotted_step c rest false is after = dotted-onto c (words_of rest) ∙ ap (λ further. c ∷ further) after

pub dotted-words_of : (inside : List ℕ) → dotted (words_of inside) ≡ inside
dotted-words_of [] = refl
dotted-words_of (c ∷ rest) = dotted_step c rest (is_dot c) refl (dotted-words_of rest)

-- the words of a reference

identifier_octets : (word : List ℕ) → is_identifier word ≡ true → list_all is_name_octet word ≡ true
identifier_octets [] is = refl
identifier_octets (c ∷ cs) is =
    both (is_name_octet c) (list_all is_name_octet cs)
    (either_inside (begins_name c) (is_digit c) (first_of_both (begins_name c) (list_all is_name_octet cs) is))
    (last_of_both (begins_name c) (list_all is_name_octet cs) is)

or_inside : (a b : Bool) → b ≡ true → (a || b) ≡ true
or_inside true b is = refl
or_inside false b is = is

digits_octets : (digits : List ℕ) → list_all is_digit digits ≡ true → list_all is_name_octet digits ≡ true
digits_octets [] is = refl
digits_octets (c ∷ cs) is =
    both (is_name_octet c) (list_all is_name_octet cs)
    (or_inside (begins_name c) (is_digit c) (first_of_both (is_digit c) (list_all is_digit cs) is))
    (digits_octets cs (last_of_both (is_digit c) (list_all is_digit cs) is))

number_octets : (word : List ℕ) → is_number word ≡ true → list_all is_name_octet word ≡ true
number_octets [] is = refl
number_octets (c ∷ cs) is = digits_octets (c ∷ cs) is

either_octets : (word : List ℕ) (b : Bool) → is_identifier word ≡ b → (b || is_number word) ≡ true → list_all is_name_octet word ≡ true
either_octets word true is either = identifier_octets word is
either_octets word false is either = number_octets word either

name_octets : (word : List ℕ) → is_name word ≡ true → list_all is_name_octet word ≡ true
name_octets word is = either_octets word (is_identifier word) refl is

names_octets : (words : List (List ℕ)) → list_all is_name words ≡ true → list_all (list_all is_name_octet) words ≡ true
names_octets [] is = refl
names_octets (word ∷ words) is =
    both (list_all is_name_octet word) (list_all (list_all is_name_octet) words)
    (name_octets word (first_of_both (is_name word) (list_all is_name words) is))
    (names_octets words (last_of_both (is_name word) (list_all is_name words) is))

pub legal_octets : (words : List (List ℕ)) → is_legal words ≡ true → list_all (list_all is_name_octet) words ≡ true
legal_octets [] is = refl
legal_octets (name ∷ []) is = both (list_all is_name_octet name) true (name_octets name is) refl
legal_octets (namespace ∷ word ∷ words) is =
    both (list_all is_name_octet namespace) (list_all (list_all is_name_octet) (word ∷ words))
    (identifier_octets namespace (first_of_both (is_identifier namespace) (list_all is_name (word ∷ words)) is))
    (names_octets (word ∷ words) (last_of_both (is_identifier namespace) (list_all is_name (word ∷ words)) is))

pub legal_some : (words : List (List ℕ)) → is_legal words ≡ true → 0 < length words
legal_some [] is = absurd (false≢true is)
legal_some (word ∷ words) is = omega arith

-- where the words of a reference are cut

pub cut_here : (inside : List ℕ) (i : ℕ) → i < length inside → ((k : ℕ) → k < i → is_dot (get_or inside k 0) ≡ false) → is_dot (get_or inside i 0) ≡ true → words_of inside ≡ take i inside ∷ words_of (drop (suc i) inside)
cut_here [] i within before is = absurd (omega arith)
cut_here (c ∷ rest) zero within before is = ap (λ b. cond b ([] ∷ words_of rest) (onto_first c (words_of rest))) is
cut_here (c ∷ rest) (suc i) within before is =
    ap (λ b. cond b ([] ∷ words_of rest) (onto_first c (words_of rest))) (before 0 (omega arith))
    ∙ ap (onto_first c) (cut_here rest i (omega arith) (λ k low. before (suc k) (omega arith)) is)

pub cut_nowhere : (inside : List ℕ) → ((k : ℕ) → k < length inside → is_dot (get_or inside k 0) ≡ false) → words_of inside ≡ inside ∷ []
cut_nowhere [] before = refl
cut_nowhere (c ∷ rest) before =
    ap (λ b. cond b ([] ∷ words_of rest) (onto_first c (words_of rest))) (before 0 (omega arith))
    ∙ ap (onto_first c) (cut_nowhere rest (λ k low. before (suc k) (omega arith)))

pub some_words : (inside : List ℕ) → 0 < length (words_of inside)
some_words inside = omega (arith, length-slice_split is_dot inside)

legal_words : (namespace : List ℕ) (words : List (List ℕ)) → 0 < length words → is_legal (namespace ∷ words) ≡ (is_identifier namespace && list_all is_name words)
legal_words namespace [] some = absurd (omega arith)
legal_words namespace (word ∷ words) some = refl

pub legal_cut : (inside namespace after : List ℕ) → words_of inside ≡ namespace ∷ words_of after → is_legal (words_of inside) ≡ (is_identifier namespace && list_all is_name (words_of after))
legal_cut inside namespace after cut = ap is_legal cut ∙ legal_words namespace (words_of after) (some_words after)

pub not_legal : (inside namespace after : List ℕ) → words_of inside ≡ namespace ∷ words_of after → is_identifier namespace ≡ false → false ≡ is_legal (words_of inside)
not_legal inside namespace after cut is =
    sym (legal_cut inside namespace after cut ∙ ap (λ b. b && list_all is_name (words_of after)) is)

pub names_cut : (inside word after : List ℕ) → words_of inside ≡ word ∷ words_of after → list_all is_name (words_of inside) ≡ (is_name word && list_all is_name (words_of after))
names_cut inside word after cut = ap (list_all is_name) cut

-- whether a reference has more than one word

length-onto : (c : ℕ) (words : List (List ℕ)) → 0 < length words → length (onto_first c words) ≡ length words
length-onto c [] some = absurd (omega arith)
length-onto c (word ∷ words) some = refl

dot_step : (c : ℕ) (rest : List ℕ) (b r : Bool) → nat_lt 1 (length (words_of rest)) ≡ r → nat_lt 1 (length (cond b ([] ∷ words_of rest) (onto_first c (words_of rest)))) ≡ (b || r)
dot_step c rest true r after = let some = some_words rest in grind (arith, nat_tests)
dot_step c rest false r after = ap (nat_lt 1) (length-onto c (words_of rest) (some_words rest)) ∙ after

pub more_words : (inside : List ℕ) → nat_lt 1 (length (words_of inside)) ≡ list_any is_dot inside
more_words [] = refl
more_words (c ∷ rest) = dot_step c rest (is_dot c) (list_any is_dot rest) (more_words rest)

only_word : (words : List (List ℕ)) (inside : List ℕ) → 0 < length words → nat_lt 1 (length words) ≡ false → dotted words ≡ inside → words ≡ inside ∷ []
only_word [] inside some one is = absurd (omega arith)
only_word (word ∷ []) inside some one is = ap (λ w. w ∷ []) (sym (append-nil word) ∙ is)
only_word (word ∷ next ∷ words) inside some one is = absurd (grind (arith, nat_tests))

pub one_word : (inside : List ℕ) → nat_lt 1 (length (words_of inside)) ≡ false → words_of inside ≡ inside ∷ []
one_word inside one = only_word (words_of inside) inside (some_words inside) one (dotted-words_of inside)

-- a reference to a match variable whose number is past the limit

pub far_word : (inside : List ℕ) → nat_lt 1 (length (words_of inside)) ≡ false → is_far (reference (words_of inside)) ≡ (is_number inside && nat_lt 99 (index_of inside))
far_word inside one = ap (λ words. is_far (reference words)) (one_word inside one)

pub far_no : (inside : List ℕ) → nat_lt 1 (length (words_of inside)) ≡ false → is_number inside ≡ false → false ≡ is_far (reference (words_of inside))
far_no inside one not_digits = sym (far_word inside one ∙ ap (λ b. b && nat_lt 99 (index_of inside)) not_digits)

pub far_yes : (inside : List ℕ) → nat_lt 1 (length (words_of inside)) ≡ false → is_number inside ≡ true → nat_lt 99 (index_of inside) ≡ is_far (reference (words_of inside))
far_yes inside one is = sym (far_word inside one ∙ ap (λ b. b && nat_lt 99 (index_of inside)) is)

-- a reference in a namespace, by the octets before and after the first dot

no_and : (b : Bool) → (b && false) ≡ false
no_and true = refl
no_and false = refl

-- an identifier is one word
identifier_word : (word : List ℕ) → is_identifier word ≡ true → words_of word ≡ word ∷ []
identifier_word word is = ap words_of (sym (append-nil word)) ∙ split_last word (identifier_octets word is)

-- a name that is no identifier names no variable that scripts share
not_shared : (namespace name : List ℕ) → is_identifier name ≡ false → is_shared namespace name ≡ false
not_shared namespace name other = ap (λ b. str_eq_ignore_ascii_case global_namespace namespace && b) other ∙ no_and (str_eq_ignore_ascii_case global_namespace namespace)

foreign_words : (namespace name : List ℕ) (words : List (List ℕ)) → 0 < length words → dotted words ≡ name → is_identifier name ≡ false → is_foreign (reference (namespace ∷ words)) ≡ true
foreign_words namespace name [] some is other = absurd (omega arith)
foreign_words namespace name (word ∷ []) some is other =
    ap not (not_shared namespace word (ap is_identifier (sym (append-nil word) ∙ is) ∙ other))
foreign_words namespace name (word ∷ next ∷ words) some is other = refl

foreign_by : (namespace name : List ℕ) (b : Bool) → is_identifier name ≡ b → is_foreign (reference (namespace ∷ words_of name)) ≡ not (is_shared namespace name)
foreign_by namespace name true is =
    ap (λ words. is_foreign (reference (namespace ∷ words))) (identifier_word name is)
foreign_by namespace name false other =
    foreign_words namespace name (words_of name) (some_words name) (dotted-words_of name) other
    ∙ sym (ap not (not_shared namespace name other))

pub foreign_cut : (inside namespace name : List ℕ) → words_of inside ≡ namespace ∷ words_of name → not (is_shared namespace name) ≡ is_foreign (reference (words_of inside))
foreign_cut inside namespace name cut =
    sym (ap (λ words. is_foreign (reference words)) cut ∙ foreign_by namespace name (is_identifier name) refl)

is_not : (b : Bool) → not b ≡ false → b ≡ true
is_not true e = refl
is_not false e = sym e

-- A reference with a namespace that isn't refused is to a shared variable. Its name is
-- after the dot.
pub shared_cut : (inside namespace name : List ℕ) → words_of inside ≡ namespace ∷ words_of name → is_foreign (reference (words_of inside)) ≡ false → global_part (folded_name name) ≡ part_of_words (words_of inside)
shared_cut inside namespace name cut own =
    let shared : is_shared namespace name ≡ true = is_not (is_shared namespace name) (foreign_cut inside namespace name cut ∙ own) in
    let word : is_identifier name ≡ true = last_of_both (str_eq_ignore_ascii_case global_namespace namespace) (is_identifier name) shared in
    sym (ap part_of_words (cut ∙ ap (λ words. namespace ∷ words) (identifier_word name word)) ∙ shared_part namespace name (is_shared namespace name) shared)
  where
    shared_part : (namespace name : List ℕ) (b : Bool) → b ≡ true → cond b (global_part (folded_name name)) (literal (written (namespace ∷ name ∷ []))) ≡ global_part (folded_name name)
    shared_part namespace name true is = refl
    shared_part namespace name false is = absurd (false≢true is)
