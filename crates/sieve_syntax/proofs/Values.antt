-- The recursions that give values, each taken on by an octet or by a line.
use Rattle.std.proofs.Common.{◌≡◌, ℕ, ◌+◌, ◌-◌, ◌*◌, ◌^◌, ◌<◌, ◌≤◌, ◌==◌, ◌||◌, ◌&&◌, Bool, true, false, not, nat_lt, if◌then◌else◌, List, [], ◌∷◌, ◌++◌, length, take, drop, get_or, Some, None, refl, sym, ap, ◌∙◌, arith, append_assoc, append-nil}
use Rattle.std.specs.List.{list_any, slice_range}
use Rattle.std.proofs.lemmas.Bool.{lt-ltb}
use Rattle.std.proofs.lemmas.List.{at_drop_more, at_drop_all, take_rest, drop_all, drop-drop, length-drop}
use Rattle.octets.specs.Octet.{is_digit, octet_of}
use Rattle.sieve_syntax.specs.Line.{line_length, lines_of, is_dot_line}
use Rattle.sieve_syntax.specs.Value.{unit_of, number_from, number_of, line_end, with_cr, is_protector, kept_octet, unprotected, first_kept, is_changed, quoted_octets, without_dot, dot_lines, multi_line_octets}
use Rattle.sieve_syntax.proofs.Cases.{by_cases, nor_left, nor_right}
use Rattle.sieve_syntax.proofs.Lines.{lines_some, lines_none}

-- NUMBERS

pub number_from-more : (xs : List ℕ) (i n : ℕ) → i < length xs → number_from n (drop i xs) ≡ (if is_digit (get_or xs i 0) then number_from (10 * n + (get_or xs i 0 - octet_of "0")) (drop (i + 1) xs) else n * unit_of (get_or xs i 0))
unfolding number_from
number_from-more xs i n h = at_drop_more (number_from n) xs i 0 h

pub number_from-end : (xs : List ℕ) (i n : ℕ) → length xs ≤ i → number_from n (drop i xs) ≡ n
unfolding number_from
number_from-end xs i n h = at_drop_all (number_from n) xs i h

unit_some : (c : ℕ) → 1 ≤ unit_of c
unit_some c =
    by_cases (c == octet_of "K" || (c == octet_of "k")) (λ b. 1 ≤ (if b then 1024 else (if c == octet_of "M" || (c == octet_of "m") then 1048576 else 1073741824))) (λ e. omega arith)
    (λ e. by_cases (c == octet_of "M" || (c == octet_of "m")) (λ b. 1 ≤ (if b then 1048576 else 1073741824)) (λ f. omega arith) (λ f. omega arith))

-- the number that the digits so far give is no greater than the whole number
pub number_grows : (xs : List ℕ) (n : ℕ) → n ≤ number_from n xs
unfolding number_from
number_grows [] n = omega arith
number_grows (c ∷ cs) n =
    by_cases (is_digit c) (λ b. n ≤ (if b then number_from (10 * n + (c - octet_of "0")) cs else n * unit_of c))
    (λ e. let more = number_grows cs (10 * n + (c - octet_of "0")) in omega arith)
    (λ e. times n (unit_of c) (unit_some c))
  where
    times : (a b : ℕ) → 1 ≤ b → a ≤ a * b
    times a b h = grind arith

pub number_fits : (symbol : List ℕ) (n : ℕ) → number_from 0 symbol ≡ n → n < 2 ^ 64 → number_of symbol ≡ Some n
number_fits symbol n e h =
    ap (λ k. if nat_lt k (2 ^ 64) then Some k else None) e
    ∙ ap (λ b. if b then Some n else None) (lt-ltb n (2 ^ 64) h)

pub ruleset number_steps = (number_from-more, number_from-end, number_grows, number_fits)

-- LINE ENDS

pub with_cr-more : (xs : List ℕ) (i : ℕ) (after_cr : Bool) → i < length xs → with_cr after_cr (drop i xs) ≡ line_end after_cr (get_or xs i 0) ++ with_cr (get_or xs i 0 == octet_of "\r") (drop (i + 1) xs)
unfolding with_cr
with_cr-more xs i after_cr h = at_drop_more (with_cr after_cr) xs i 0 h

pub with_cr-end : (xs : List ℕ) (i : ℕ) (after_cr : Bool) → length xs ≤ i → with_cr after_cr (drop i xs) ≡ []
unfolding with_cr
with_cr-end xs i after_cr h = at_drop_all (with_cr after_cr) xs i h

-- BACKSLASHES

-- the octets that are kept of some, by whether a backslash is before them
abbrev pub kept_of : Bool → List ℕ → List ℕ
kept_of true xs = first_kept xs
kept_of false xs = unprotected xs

pub kept-more : (xs : List ℕ) (i : ℕ) (protected : Bool) → i < length xs → kept_of protected (drop i xs) ≡ kept_octet protected (get_or xs i 0) ++ kept_of (is_protector protected (get_or xs i 0)) (drop (i + 1) xs)
unfolding unprotected
kept-more xs i true h =
    at_drop_more first_kept xs i 0 h
    ∙ by_cases (get_or xs i 0 == octet_of "\\") (λ b. get_or xs i 0 ∷ unprotected (drop (i + 1) xs) ≡ (if b && false then [] else get_or xs i 0 ∷ []) ++ kept_of (b && false) (drop (i + 1) xs)) (λ e. refl) (λ e. refl)
kept-more xs i false h =
    at_drop_more unprotected xs i 0 h
    ∙ by_cases (get_or xs i 0 == octet_of "\\") (λ b. (if b then first_kept (drop (i + 1) xs) else get_or xs i 0 ∷ unprotected (drop (i + 1) xs)) ≡ (if b && true then [] else get_or xs i 0 ∷ []) ++ kept_of (b && true) (drop (i + 1) xs)) (λ e. refl) (λ e. refl)

pub kept-end : (xs : List ℕ) (i : ℕ) (protected : Bool) → length xs ≤ i → kept_of protected (drop i xs) ≡ []
unfolding unprotected
kept-end xs i true h = at_drop_all first_kept xs i h
kept-end xs i false h = at_drop_all unprotected xs i h

-- a quoted string of fewer than two octets stands for no octets
pub no_octets : (symbol : List ℕ) → length symbol < 2 → quoted_octets symbol ≡ []
unfolding quoted_octets unprotected with_cr
no_octets [] h = refl
no_octets (c ∷ []) h = refl
no_octets (c ∷ d ∷ ds) h = absurd (omega arith)

-- octets of which each stands for itself are kept as they are
plain_kept : (xs : List ℕ) (after_cr : Bool) → list_any is_changed xs ≡ false → unprotected (with_cr after_cr xs) ≡ xs
unfolding unprotected with_cr
plain_kept [] after_cr e = refl
plain_kept (c ∷ cs) after_cr e =
    let here = nor_left (is_changed c) (list_any is_changed cs) e in
    ap (λ b. unprotected ((if b && not after_cr then octet_of "\r" ∷ octet_of "\n" ∷ [] else c ∷ []) ++ with_cr (c == octet_of "\r") cs)) (nor_left (c == octet_of "\n") (c == octet_of "\\") here)
    ∙ ap (λ b. if b then first_kept (with_cr (c == octet_of "\r") cs) else c ∷ unprotected (with_cr (c == octet_of "\r") cs)) (nor_right (c == octet_of "\n") (c == octet_of "\\") here)
    ∙ ap (λ x. c ∷ x) (plain_kept cs (c == octet_of "\r") (nor_right (is_changed c) (list_any is_changed cs) e))

pub plain_string : (symbol : List ℕ) → list_any is_changed (slice_range symbol 1 (length symbol - 1)) ≡ false → quoted_octets symbol ≡ slice_range symbol 1 (length symbol - 1)
unfolding quoted_octets
plain_string symbol e = plain_kept (slice_range symbol 1 (length symbol - 1)) false e

pub ruleset quoted_steps = (no_octets, plain_string)

-- LINES

pub dot_lines-first : (symbol : List ℕ) → multi_line_octets symbol ≡ dot_lines (lines_of (drop (line_length symbol) symbol))
unfolding multi_line_octets dot_lines line_length
dot_lines-first [] = ap (λ ls. dot_lines (drop 1 ls)) lines_none ∙ sym (ap dot_lines lines_none)
dot_lines-first (c ∷ cs) = ap (λ ls. dot_lines (drop 1 ls)) (lines_some (c ∷ cs) (omega arith))

pub dot_lines-more : (xs : List ℕ) (i : ℕ) → i < length xs → dot_lines (lines_of (drop i xs)) ≡
    (if is_dot_line (take (line_length (drop i xs)) (drop i xs)) then []
    else with_cr false (without_dot (take (line_length (drop i xs)) (drop i xs))) ++ dot_lines (lines_of (drop (i + line_length (drop i xs)) xs)))
unfolding dot_lines
dot_lines-more xs i h =
    let ys = drop i xs in
    let left : length ys ≡ length xs - i = length-drop i xs in
    let k = line_length ys in
    let line = take k ys in
    ap dot_lines (lines_some ys (omega arith))
    ∙ ap (λ zs. if is_dot_line line then [] else with_cr false (without_dot line) ++ dot_lines (lines_of zs)) (drop-drop k i xs)

pub dot_lines-end : (xs : List ℕ) (i : ℕ) → length xs ≤ i → dot_lines (lines_of (drop i xs)) ≡ []
unfolding dot_lines
dot_lines-end xs i h = ap (λ l. dot_lines (lines_of l)) (drop_all i xs h) ∙ ap dot_lines lines_none

pub ruleset line_steps = (dot_lines-first)

-- the first line from a place on, as the program takes it
first_line : (symbol : List ℕ) (place k : ℕ) → k ≡ line_length (take (length symbol - place) (drop place symbol)) → (k ≡ line_length (drop place symbol)) × (take ((place + k) - place) (drop place symbol) ≡ take (line_length (drop place symbol)) (drop place symbol))
first_line symbol place k e =
    let same : k ≡ line_length (drop place symbol) = e ∙ ap line_length (take_rest symbol place) in
    let less : (place + k) - place ≡ k = omega arith in
    (same, ap (λ n. take n (drop place symbol)) (less ∙ same))

pub joins_stop : (symbol out all : List ℕ) (place k : ℕ) → place < length symbol → k ≡ line_length (take (length symbol - place) (drop place symbol)) → is_dot_line (take ((place + k) - place) (drop place symbol)) ≡ true
    → out ++ dot_lines (lines_of (drop place symbol)) ≡ all → out ≡ all
joins_stop symbol out all place k less e dot joined =
    let line = first_line symbol place k e in
    let is_dot : is_dot_line (take (line_length (drop place symbol)) (drop place symbol)) ≡ true = sym (ap is_dot_line line.1) ∙ dot in
    let none : dot_lines (lines_of (drop place symbol)) ≡ [] = dot_lines-more symbol place less ∙ ap (λ b. if b then [] else with_cr false (without_dot (take (line_length (drop place symbol)) (drop place symbol))) ++ dot_lines (lines_of (drop (place + line_length (drop place symbol)) symbol))) is_dot in
    sym (append-nil out) ∙ ap (λ x. out ++ x) (sym none) ∙ joined

pub joins_on : (symbol out after all : List ℕ) (place k : ℕ) → place < length symbol → k ≡ line_length (take (length symbol - place) (drop place symbol)) → is_dot_line (take ((place + k) - place) (drop place symbol)) ≡ false
    → after ≡ out ++ with_cr false (without_dot (take ((place + k) - place) (drop place symbol)))
    → out ++ dot_lines (lines_of (drop place symbol)) ≡ all → after ++ dot_lines (lines_of (drop (place + k) symbol)) ≡ all
joins_on symbol out after all place k less e dot is joined =
    let line = first_line symbol place k e in
    let text = with_cr false (without_dot (take (line_length (drop place symbol)) (drop place symbol))) in
    let is_dot : is_dot_line (take (line_length (drop place symbol)) (drop place symbol)) ≡ false = sym (ap is_dot_line line.1) ∙ dot in
    let more : dot_lines (lines_of (drop place symbol)) ≡ text ++ dot_lines (lines_of (drop (place + line_length (drop place symbol)) symbol)) =
    dot_lines-more symbol place less ∙ ap (λ b. if b then [] else text ++ dot_lines (lines_of (drop (place + line_length (drop place symbol)) symbol))) is_dot in
    ap (λ x. x ++ dot_lines (lines_of (drop (place + k) symbol))) (is ∙ ap (λ x. out ++ with_cr false (without_dot x)) line.1)
    ∙ ap (λ n. (out ++ text) ++ dot_lines (lines_of (drop (place + n) symbol))) line.0
    ∙ append_assoc out text (dot_lines (lines_of (drop (place + line_length (drop place symbol)) symbol)))
    ∙ ap (λ x. out ++ x) (sym more) ∙ joined

pub joins_end : (symbol out all : List ℕ) (place : ℕ) → length symbol ≤ place → out ++ dot_lines (lines_of (drop place symbol)) ≡ all → out ≡ all
joins_end symbol out all place past joined = sym (append-nil out) ∙ ap (λ x. out ++ x) (sym (dot_lines-end symbol place past)) ∙ joined
