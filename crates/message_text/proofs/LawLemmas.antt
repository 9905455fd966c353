-- Facts of the marks and of the addresses of any value.
use Rattle.std.proofs.Common.{◌≡◌, ℕ, ◌+◌, ◌-◌, ◌<◌, ◌==◌, Bool, true, not, List, [], ◌∷◌, ◌++◌, Option, None, Some, IfSome, length, take, drop, reverse, get_or, refl, sym, ap, ◌∙◌, arith}
use Rattle.std.specs.List.{All, after_last, before_last, cons_option, filter_map, slice_split, suffix_len}
use Rattle.std.proofs.lemmas.Bool.{and_parts, eqb-true, not-false}
use Rattle.std.proofs.lemmas.List.{drop_more, get_or-reverse, length-reverse, length-map, length-take-le, map-append, take-append-drop}
use Rattle.std.proofs.lemmas.List.Elements.{All-cons, All-nil}
use Rattle.std.proofs.lemmas.List.Sums.{prefix_len_stops}
use Rattle.octets.specs.Octet.{octet_of}
use Rattle.message_text.specs.Addresses.{IsAddrSpec, address_by, address_in, address_marks, addresses_of, divided, is_free, is_mark_plain, marks_from, marks_of, octets_of, separates, surroundings_after, value_start}
use Rattle.message_text.specs.declared.marks.Marked.{Marked}
use Rattle.message_text.specs.declared.marks.Surroundings.{Surroundings}

octets_of-marks_from : (spot : Surroundings) (value : List ℕ) → octets_of (marks_from spot value) ≡ value
unfolding marks_from
octets_of-marks_from spot [] = refl
octets_of-marks_from spot (b ∷ rest) = ap (λ (octets : List ℕ). b ∷ octets) (octets_of-marks_from (surroundings_after spot b) rest)

pub marks_are_of_the_octets : (value : List ℕ) → octets_of (marks_of value) ≡ value
marks_are_of_the_octets value = octets_of-marks_from value_start value

-- the place of the last element that passes, if one does
last_place : {X : Type 0} (p : X → Bool) (xs : List X) → ℕ
last_place p xs = length xs - suffix_len (λ x. not (p x)) xs - 1

after_is_short : {X : Type 0} (p : X → Bool) (xs : List X) → 0 < length (before_last p xs) → suffix_len (λ x. not (p x)) xs + 1 < length xs
after_is_short p xs front =
    let after = suffix_len (λ x. not (p x)) xs in
    let len = length-take-le (length xs - after - 1) xs (omega arith) in
    omega (arith, len, front)

last_passes : {X : Type 0} (p : X → Bool) (xs : List X) (d : X) → 0 < length (before_last p xs) → p (get_or xs (last_place p xs) d) ≡ true
unfolding last_place
last_passes {X} p xs d front =
    let fails : X → Bool = λ x. not (p x) in
    let after = suffix_len fails xs in
    let short = after_is_short p xs front in
    let within : after < length (reverse xs) = omega (arith, length-reverse xs, short) in
    let place : length xs - after - 1 ≡ length xs - 1 - after = omega arith in
    ap (λ n. p (get_or xs n d)) place ∙ ap p (sym (get_or-reverse xs after d (omega (arith, short))))
    ∙ not-false (p (get_or (reverse xs) after d)) (prefix_len_stops fails (reverse xs) d within)

around_last : {X : Type 0} (p : X → Bool) (xs : List X) (d : X) → 0 < length (before_last p xs) → xs ≡ before_last p xs ++ get_or xs (last_place p xs) d ∷ after_last p xs
unfolding last_place
around_last p xs d front =
    let place = length xs - suffix_len (λ x. not (p x)) xs - 1 in
    let short = after_is_short p xs front in
    let next : place + 1 ≡ length xs - suffix_len (λ x. not (p x)) xs = omega (arith, short) in
    sym (take-append-drop place xs) ∙ ap (λ rest. take place xs ++ rest) (drop_more xs place d (omega (arith, short)))
    ∙ ap (λ n. take place xs ++ get_or xs place d ∷ drop n xs) next

divided-law : (all local_part domain : List ℕ) → 0 < length all → (0 < length local_part → 0 < length domain → all ≡ local_part ++ octet_of "@" ∷ domain) → IsAddrSpec (divided all local_part domain)
divided-law all [] domain filled joins = record { filled = filled; parts = tt }
divided-law all (b ∷ bs) [] filled joins = record { filled = filled; parts = tt }
divided-law all (b ∷ bs) (c ∷ cs) filled joins = record { filled = filled; parts = (joins (omega arith) (omega arith), (omega arith, omega arith)) }

octets_join : (marks : List Marked) (m : Marked) → 0 < length (octets_of (before_last (is_free (octet_of "@")) marks)) → octets_of marks ≡ octets_of (before_last (is_free (octet_of "@")) marks) ++ octet_of "@" ∷ octets_of (after_last (is_free (octet_of "@")) marks)
octets_join marks m front =
    let test = is_free (octet_of "@") in
    let octet : Marked → ℕ = λ m. m.octet in
    let before = before_last test marks in
    let after = after_last test marks in
    let last = get_or marks (last_place test marks) m in
    let some : 0 < length before = omega (arith, front, length-map before octet) in
    let free = and_parts (is_mark_plain last.mark) (last.octet == octet_of "@") (last_passes test marks m some) in
    ap octets_of (around_last test marks m some) ∙ map-append octet before (last ∷ after)
    ∙ ap (λ b. octets_of before ++ b ∷ octets_of after) (eqb-true last.octet (octet_of "@") free.1)

address_by-law : (marks : List Marked) → IfSome (address_by marks) IsAddrSpec
address_by-law [] = tt
address_by-law (m ∷ ms) =
    let test = is_free (octet_of "@") in
    divided-law (octets_of (m ∷ ms)) (octets_of (before_last test (m ∷ ms))) (octets_of (after_last test (m ∷ ms))) (omega arith) (λ front _. octets_join (m ∷ ms) m front)

All-cons_option : {X : Type 0} (P : X → Type 0) (one : Option X) (xs : List X) → IfSome one P → All P xs → All P (cons_option one xs)
All-cons_option P None xs is all = all
All-cons_option P (Some x) xs is all = All-cons P x xs is all

All-filter_map : {X Y : Type 0} (P : Y → Type 0) (f : X → Option Y) → ((x : X) → IfSome (f x) P) → (xs : List X) → All P (filter_map f xs)
All-filter_map P f each [] = All-nil P
All-filter_map P f each (x ∷ xs) = All-cons_option P (f x) (filter_map f xs) (each x) (All-filter_map P f each xs)

pub addresses_are_whole : (value : List ℕ) → All IsAddrSpec (addresses_of value)
unfolding addresses_of
addresses_are_whole value =
    All-filter_map IsAddrSpec address_in (λ piece. address_by-law (address_marks piece)) (slice_split separates (marks_of value))
