-- The recursions over a text, each taken on by an octet or by a line.
use Rattle.std.proofs.Common.{◌≡◌, ℕ, suc, ◌+◌, ◌-◌, ◌<◌, ◌≤◌, ◌==◌, ◌&&◌, Bool, true, false, if◌then◌else◌, List, ◌∷◌, length, take, drop, get_or, Option, Some, None, refl, sym, ap, ◌∙◌, arith}
use Rattle.std.specs.Option.{option_map}
use Rattle.std.proofs.lemmas.List.{take_all, take_rest, at_drop_more, at_drop_all, take-take, drop-take, drop_more, drop_all, drop-drop, length-drop, length-take-le}
use Rattle.std.proofs.lemmas.List.Sums.{sum_by-take-drop}
use Rattle.std.proofs.Math.Numerals.{add-one}
use Rattle.octets.specs.Octet.{is_blank, is_digit, is_name_octet, octet_of}
use Rattle.sieve_syntax.specs.Line.{line_length, lines_of, is_dot_line}
use Rattle.sieve_syntax.specs.Octet.{is_unit}
use Rattle.sieve_syntax.specs.Scan.{shifted, opening_stop, opening_end, dot_length, name_length, number_length, quoted_length, protected_length}
use Rattle.sieve_syntax.specs.Token.{line_feeds}
use Rattle.sieve_syntax.specs.White.{begins_with, comment_length}
use Rattle.sieve_syntax.proofs.Cases.{by_cases}
use Rattle.sieve_syntax.proofs.Scanning.{name_bound, number_bound, quoted_found}
use Rattle.sieve_syntax.proofs.Lines.{line_bound, line_some, lines_some, lines_none}

pub shifted_suc : (i : ℕ) (o : Option ℕ) → shifted i (option_map suc o) ≡ shifted (i + 1) o
shifted_suc i None = refl
shifted_suc i (Some n) = ap (λ k. Some k) (omega arith)

pub shifted_more : (i k : ℕ) (o : Option ℕ) → shifted i (option_map (λ n. k + n) o) ≡ shifted (i + k) o
shifted_more i k None = refl
shifted_more i k (Some n) = ap (λ j. Some j) (omega arith)

pub shifted_zero : (o : Option ℕ) → shifted 0 o ≡ o
shifted_zero None = refl
shifted_zero (Some n) = ap (λ k. Some k) (omega arith)

pub line_length-more : (xs : List ℕ) (i : ℕ) → i < length xs → line_length (drop i xs) ≡ (if get_or xs i 0 == octet_of "\n" then 1 else line_length (drop (i + 1) xs) + 1)
unfolding line_length
line_length-more xs i h = rw (add-one (line_length (drop (i + 1) xs))) (at_drop_more line_length xs i 0 h)

pub line_length-end : (xs : List ℕ) (i : ℕ) → length xs ≤ i → line_length (drop i xs) ≡ 0
unfolding line_length
line_length-end xs i h = at_drop_all line_length xs i h

pub name_length-more : (xs : List ℕ) (i : ℕ) → i < length xs → name_length (drop i xs) ≡ (if is_name_octet (get_or xs i 0) then name_length (drop (i + 1) xs) + 1 else 0)
unfolding name_length
name_length-more xs i h = rw (add-one (name_length (drop (i + 1) xs))) (at_drop_more name_length xs i 0 h)

pub name_length-end : (xs : List ℕ) (i : ℕ) → length xs ≤ i → name_length (drop i xs) ≡ 0
unfolding name_length
name_length-end xs i h = at_drop_all name_length xs i h

pub number_length-more : (xs : List ℕ) (i : ℕ) → i < length xs → number_length (drop i xs) ≡ (if is_digit (get_or xs i 0) then number_length (drop (i + 1) xs) + 1 else (if is_unit (get_or xs i 0) then 1 else 0))
unfolding number_length
number_length-more xs i h = rw (add-one (number_length (drop (i + 1) xs))) (at_drop_more number_length xs i 0 h)

pub number_length-end : (xs : List ℕ) (i : ℕ) → length xs ≤ i → number_length (drop i xs) ≡ 0
unfolding number_length
number_length-end xs i h = at_drop_all number_length xs i h

pub opening-more : (xs : List ℕ) (i : ℕ) → i < length xs → shifted i (opening_end (drop i xs)) ≡ (if is_blank (get_or xs i 0) then shifted (i + 1) (opening_end (drop (i + 1) xs)) else shifted i (opening_stop (drop i xs)))
unfolding opening_end
opening-more xs i h =
    ap (shifted i) (at_drop_more opening_end xs i 0 h)
    ∙ by_cases (is_blank (get_or xs i 0))
    (λ b. shifted i (if b then option_map suc (opening_end (drop (i + 1) xs)) else opening_stop (get_or xs i 0 ∷ drop (i + 1) xs)) ≡ (if b then shifted (i + 1) (opening_end (drop (i + 1) xs)) else shifted i (opening_stop (drop i xs))))
    (λ e. shifted_suc i (opening_end (drop (i + 1) xs)))
    (λ e. ap (λ rest. shifted i (opening_stop rest)) (sym (drop_more xs i 0 h)))

pub opening-none : (xs : List ℕ) (i : ℕ) → length xs ≤ i → shifted i (opening_end (drop i xs)) ≡ None
unfolding opening_end
opening-none xs i h = ap (shifted i) (at_drop_all opening_end xs i h)

pub comment-more : (xs : List ℕ) (i : ℕ) → i < length xs → shifted i (comment_length (drop i xs)) ≡ (if (get_or xs i 0 == octet_of "*") && begins_with (octet_of "/") (drop (i + 1) xs) then Some (i + 2) else shifted (i + 1) (comment_length (drop (i + 1) xs)))
unfolding comment_length
comment-more xs i h =
    ap (shifted i) (at_drop_more comment_length xs i 0 h)
    ∙ by_cases ((get_or xs i 0 == octet_of "*") && begins_with (octet_of "/") (drop (i + 1) xs))
    (λ b. shifted i (if b then Some 2 else option_map suc (comment_length (drop (i + 1) xs))) ≡ (if b then Some (i + 2) else shifted (i + 1) (comment_length (drop (i + 1) xs))))
    (λ e. refl) (λ e. shifted_suc i (comment_length (drop (i + 1) xs)))

pub comment-end : (xs : List ℕ) (i : ℕ) → length xs ≤ i → shifted i (comment_length (drop i xs)) ≡ None
unfolding comment_length
comment-end xs i h = ap (shifted i) (at_drop_all comment_length xs i h)

-- the length of the rest of a quoted string, after a backslash or not
abbrev pub string_length : Bool → List ℕ → Option ℕ
string_length true xs = protected_length xs
string_length false xs = quoted_length xs

pub string-more : (xs : List ℕ) (i : ℕ) (protected : Bool) → i < length xs → shifted i (string_length protected (drop i xs)) ≡
    (if protected then shifted (i + 1) (string_length false (drop (i + 1) xs))
    else (if get_or xs i 0 == octet_of "\\" then shifted (i + 1) (string_length true (drop (i + 1) xs))
    else (if get_or xs i 0 == octet_of "\"" then Some (i + 1)
    else shifted (i + 1) (string_length false (drop (i + 1) xs)))))
unfolding quoted_length
string-more xs i true h = ap (shifted i) (at_drop_more protected_length xs i 0 h) ∙ shifted_suc i (quoted_length (drop (i + 1) xs))
string-more xs i false h =
    ap (shifted i) (at_drop_more quoted_length xs i 0 h)
    ∙ by_cases (get_or xs i 0 == octet_of "\\")
    (λ b. shifted i (if b then option_map suc (protected_length (drop (i + 1) xs)) else (if get_or xs i 0 == octet_of "\"" then Some 1 else option_map suc (quoted_length (drop (i + 1) xs)))) ≡ (if b then shifted (i + 1) (protected_length (drop (i + 1) xs)) else (if get_or xs i 0 == octet_of "\"" then Some (i + 1) else shifted (i + 1) (quoted_length (drop (i + 1) xs)))))
    (λ e. shifted_suc i (protected_length (drop (i + 1) xs)))
    (λ e. by_cases (get_or xs i 0 == octet_of "\"")
    (λ b. shifted i (if b then Some 1 else option_map suc (quoted_length (drop (i + 1) xs))) ≡ (if b then Some (i + 1) else shifted (i + 1) (quoted_length (drop (i + 1) xs))))
    (λ f. refl) (λ f. shifted_suc i (quoted_length (drop (i + 1) xs))))

pub string-end : (xs : List ℕ) (i : ℕ) (protected : Bool) → length xs ≤ i → shifted i (string_length protected (drop i xs)) ≡ None
unfolding quoted_length
string-end xs i true h = ap (shifted i) (at_drop_all protected_length xs i h)
string-end xs i false h = ap (shifted i) (at_drop_all quoted_length xs i h)

-- the length of the lines up to a dot alone, by the first of these lines and those after it
pub dot-more : (xs : List ℕ) (i : ℕ) → i < length xs → shifted i (dot_length (lines_of (drop i xs))) ≡
    (if is_dot_line (take (line_length (drop i xs)) (drop i xs)) then Some (i + line_length (drop i xs))
    else shifted (i + line_length (drop i xs)) (dot_length (lines_of (drop (i + line_length (drop i xs)) xs))))
unfolding dot_length
dot-more xs i h =
    let ys = drop i xs in
    let left : length ys ≡ length xs - i = length-drop i xs in
    let k = line_length ys in
    let line = take k ys in
    let len : length line ≡ k = length-take-le k ys (line_bound ys) in
    let further : drop k ys ≡ drop (i + k) xs = drop-drop k i xs in
    ap (λ ls. shifted i (dot_length ls)) (lines_some ys (omega arith))
    ∙ by_cases (is_dot_line line)
    (λ b. shifted i (if b then Some (length line) else option_map (λ n. length line + n) (dot_length (lines_of (drop k ys)))) ≡ (if b then Some (i + k) else shifted (i + k) (dot_length (lines_of (drop (i + k) xs)))))
    (λ e. ap (λ n. Some (i + n)) len)
    (λ e. shifted_more i (length line) (dot_length (lines_of (drop k ys))) ∙ ap (λ n. shifted (i + n) (dot_length (lines_of (drop k ys)))) len ∙ ap (λ l. shifted (i + k) (dot_length (lines_of l))) further)

pub dot-end : (xs : List ℕ) (i : ℕ) → length xs ≤ i → shifted i (dot_length (lines_of (drop i xs))) ≡ None
unfolding dot_length
dot-end xs i h = ap (λ l. shifted i (dot_length (lines_of l))) (drop_all i xs h) ∙ ap (λ ls. shifted i (dot_length ls)) lines_none

pub quoted_bound : (cs : List ℕ) (n : ℕ) → quoted_length cs ≡ Some n → n ≤ length cs
quoted_bound cs n e = (quoted_found cs n e).inside

pub ruleset dot_steps = (dot-more, dot-end, take_rest)

pub ruleset line_steps = (line_length-more, line_length-end)

pub ruleset line_bounds = (line_bound, line_some)

pub ruleset name_steps = (name_length-more, name_length-end, name_bound)

pub ruleset number_steps = (number_length-more, number_length-end, number_bound)

pub ruleset opening_steps = (opening-more, opening-none, shifted_zero, take_rest)

pub ruleset comment_steps = (comment-more, comment-end, shifted_zero, take_rest)

pub ruleset string_steps = (string-more, string-end, shifted_zero, quoted_bound)

pub line_feeds_split : (text : List ℕ) (start end : ℕ) → start ≤ end → line_feeds (take start text) + line_feeds (take (end - start) (drop start text)) ≡ line_feeds (take end text)
line_feeds_split text start end h =
    let n = end - start in
    let e : start + n ≡ end = omega arith in
    let front : take start (take end text) ≡ take start text = take-take start end text h in
    let back : drop start (take end text) ≡ take n (drop start text) = ap (λ k. drop start (take k text)) (sym e) ∙ drop-take start n text in
    ap (λ xs. line_feeds xs + line_feeds (take n (drop start text))) (sym front)
    ∙ ap (λ xs. line_feeds (take start (take end text)) + line_feeds xs) (sym back)
    ∙ sum_by-take-drop _ (take end text) start

pub line_feeds_all : (text : List ℕ) → line_feeds (take (length text) text) ≡ line_feeds text
line_feeds_all text = ap line_feeds (take_all (length text) text (omega arith))
