-- Lines, and the multi-line strings that they make.
use Rattle.std.proofs.Common.{◌≡◌, ℕ, zero, suc, ◌+◌, ◌-◌, ◌<◌, ◌≤◌, ◌==◌, ◌||◌, ◌&&◌, inl, inr, Bool, true, false, if◌then◌else◌, List, [], ◌∷◌, ◌++◌, length, take, drop, Option, Some, None, refl, sym, ap, ◌∙◌, subst, arith}
use Rattle.std.proofs.lemmas.Option.{same_Some}
use Rattle.std.specs.List.{list_any}
use Rattle.std.specs.Option.{option_map}
use Rattle.std.proofs.lemmas.Bool.{eqb-true, cases_lt}
use Rattle.std.proofs.lemmas.List.{length-take-le, length-drop, take-take, drop-take, take_all, take-append-drop}
use Rattle.sieve_syntax.specs.Line.{line_length, on_first, lines_of, is_line_end, is_dot_line}
use Rattle.octets.specs.Octet.{begins_name, octet_of}
use Rattle.sieve_syntax.specs.Spelling.{is_none, spells_text, is_opening, end_at_dot, are_multi_line, is_multi_line}
use Rattle.sieve_syntax.specs.Scan.{dot_length, multi_line_length}
use Rattle.sieve_syntax.proofs.Cases.{by_cases, and_left, and_right}
use Rattle.sieve_syntax.proofs.Scanning.{IsEnd}

-- THE FIRST LINE

pub line_bound : (cs : List ℕ) → line_length cs ≤ length cs
unfolding line_length
line_bound [] = omega arith
line_bound (c ∷ cs) =
    let more : line_length cs ≤ length cs = line_bound cs in
    by_cases (c == octet_of "\n") (λ b. (if b then 1 else suc (line_length cs)) ≤ suc (length cs)) (λ e. omega arith) (λ e. omega arith)

pub line_some : (cs : List ℕ) → 0 < length cs → 0 < line_length cs
unfolding line_length
line_some [] h = absurd (omega arith)
line_some (c ∷ cs) h = by_cases (c == octet_of "\n") (λ b. 0 < (if b then 1 else suc (line_length cs))) (λ e. omega arith) (λ e. omega arith)

-- a front that has the whole first line has the same first line
pub line_prefix : (xs : List ℕ) (n : ℕ) → line_length xs ≤ n → line_length (take n xs) ≡ line_length xs
unfolding line_length
line_prefix [] zero h = refl
line_prefix [] (suc n) h = refl
line_prefix (c ∷ cs) zero h = absurd (let some = line_some (c ∷ cs) (omega arith) in omega arith)
line_prefix (c ∷ cs) (suc n) h =
    by_cases (c == octet_of "\n") (λ b. (if b then 1 else suc (line_length cs)) ≤ suc n → (if b then 1 else suc (line_length (take n cs))) ≡ (if b then 1 else suc (line_length cs)))
    (λ e less. refl) (λ e less. ap suc (line_prefix cs n (omega arith))) h

-- a front inside the first line is one line
pub line_short : (xs : List ℕ) (n : ℕ) → n < line_length xs → line_length (take n xs) ≡ n
unfolding line_length
line_short [] n h = absurd (omega arith)
line_short (c ∷ cs) zero h = refl
line_short (c ∷ cs) (suc n) h =
    by_cases (c == octet_of "\n") (λ b. suc n < (if b then 1 else suc (line_length cs)) → (if b then 1 else suc (line_length (take n cs))) ≡ suc n)
    (λ e less. absurd (omega arith)) (λ e less. ap suc (line_short cs n (omega arith))) h

-- before a line's last octet stands no LF
line_bare : (xs : List ℕ) (n : ℕ) → n < line_length xs → list_any (λ c. c == octet_of "\n") (take n xs) ≡ false
unfolding line_length
line_bare [] n h = absurd (omega arith)
line_bare (c ∷ cs) zero h = refl
line_bare (c ∷ cs) (suc n) h =
    by_cases (c == octet_of "\n") (λ b. suc n < (if b then 1 else suc (line_length cs)) → (b || list_any (λ d. d == octet_of "\n") (take n cs)) ≡ false)
    (λ e less. absurd (omega arith)) (λ e less. line_bare cs n (omega arith)) h

-- THE LINES OF A TEXT

pub lines_some : (xs : List ℕ) → 0 < length xs → lines_of xs ≡ take (line_length xs) xs ∷ lines_of (drop (line_length xs) xs)
unfolding lines_of line_length
lines_some [] h = absurd (omega arith)
lines_some (c ∷ []) h =
    by_cases (c == octet_of "\n") (λ b. (c == octet_of "\n") ≡ b → (if b then (octet_of "\n" ∷ []) ∷ [] else (c ∷ []) ∷ []) ≡ take (if b then 1 else 1) (c ∷ []) ∷ lines_of (drop (if b then 1 else 1) (c ∷ [])))
    (λ e f. ap (λ x. (x ∷ []) ∷ []) (sym (eqb-true c (octet_of "\n") f))) (λ e f. refl) refl
lines_some (c ∷ d ∷ ds) h =
    let below = lines_some (d ∷ ds) (omega arith) in
    by_cases (c == octet_of "\n") (λ b. (c == octet_of "\n") ≡ b → (if b then (octet_of "\n" ∷ []) ∷ lines_of (d ∷ ds) else on_first c (lines_of (d ∷ ds))) ≡ take (if b then 1 else suc (line_length (d ∷ ds))) (c ∷ d ∷ ds) ∷ lines_of (drop (if b then 1 else suc (line_length (d ∷ ds))) (c ∷ d ∷ ds)))
    (λ e f. ap (λ x. (x ∷ []) ∷ lines_of (d ∷ ds)) (sym (eqb-true c (octet_of "\n") f)))
    (λ e f. ap (on_first c) below) refl

-- the lines of a front that has the whole first line
pub lines_take : (xs : List ℕ) (m : ℕ) → 0 < length xs → lines_of (take (line_length xs + m) xs) ≡ take (line_length xs) xs ∷ lines_of (take m (drop (line_length xs) xs))
lines_take xs m h =
    let k = line_length xs in
    let some = line_some xs h in
    let bound = line_bound xs in
    let same : line_length (take (k + m) xs) ≡ k = line_prefix xs (k + m) (omega arith) in
    let long : 0 < length (take (k + m) xs) = taken_some xs (k + m) h (omega arith) in
    lines_some (take (k + m) xs) long
    ∙ ap (λ n. take n (take (k + m) xs) ∷ lines_of (drop n (take (k + m) xs))) same
    ∙ ap (λ x. x ∷ lines_of (drop k (take (k + m) xs))) (take-take k (k + m) xs (omega arith))
    ∙ ap (λ x. take k xs ∷ lines_of x) (drop-take k m xs)
  where
    taken_some : (ys : List ℕ) (n : ℕ) → 0 < length ys → 0 < n → 0 < length (take n ys)
    taken_some [] n p q = absurd (omega arith)
    taken_some (y ∷ ys) zero p q = absurd (omega arith)
    taken_some (y ∷ ys) (suc n) p q = omega arith

pub lines_none : lines_of [] ≡ []
unfolding lines_of
lines_none = refl

-- a front inside the first line is its own only line
lines_short : (xs : List ℕ) (m : ℕ) → 0 < m → m < line_length xs → lines_of (take m xs) ≡ take m xs ∷ []
lines_short xs m h less =
    let bound = line_bound xs in
    let len : length (take m xs) ≡ m = length-take-le m xs (omega arith) in
    let same : line_length (take m xs) ≡ length (take m xs) = line_short xs m less ∙ sym len in
    lines_some (take m xs) (omega arith)
    ∙ ap (λ n. take n (take m xs) ∷ lines_of (drop n (take m xs))) same
    ∙ whole (take m xs)
  where
    whole : (ys : List ℕ) → ◌≡◌ {A = List (List ℕ)} (take (length ys) ys ∷ lines_of (drop (length ys) ys)) (ys ∷ [])
    whole ys = ap (λ x. x ∷ lines_of (drop (length ys) ys)) (take_all (length ys) ys (omega arith)) ∙ ap (λ x. ys ∷ x) (ap lines_of (past ys) ∙ lines_none)
      where
        past : (zs : List ℕ) → drop (length zs) zs ≡ []
        past [] = refl
        past (z ∷ zs) = past zs

lines_is_none : (xs : List ℕ) (m : ℕ) → m ≤ length xs → is_none (lines_of (take m xs)) ≡ true → m ≡ 0
lines_is_none xs zero h e = refl
lines_is_none [] (suc m) h e = absurd (omega arith)
lines_is_none (x ∷ xs) (suc m) h e =
    let some = lines_some (x ∷ take m xs) (omega arith) in
    let clash : is_none (lines_of (x ∷ take m xs)) ≡ false = ap is_none some in
    cc

-- a line that is a dot alone has an LF
dot_feed : (line : List ℕ) → is_dot_line line ≡ true → list_any (λ c. c == octet_of "\n") line ≡ true
unfolding is_dot_line is_line_end
dot_feed [] e = cc
dot_feed (c ∷ []) e = absurd (let f = and_right (c == octet_of ".") false e in cc)
dot_feed (c ∷ d ∷ []) e = grind arith
dot_feed (c ∷ d ∷ f ∷ []) e = grind arith
dot_feed (c ∷ d ∷ f ∷ g ∷ gs) e = absurd (let f = and_right (c == octet_of ".") false e in cc)

-- LINES UP TO A DOT

split : {A : Type 0} (k n : ℕ) → (n < k → A) → (k ≤ n → A) → A
split k n a b = elim (cases_lt n k) [ inl h ↦ a h | inr h ↦ b h ]

some_more : (k n : ℕ) (o : Option ℕ) → option_map (λ m. k + m) o ≡ Some n → (m : ℕ) × (o ≡ Some m) × (n ≡ k + m)
some_more k n (Some m) e = (m, refl, cc)
some_more k n None e = cc

abbrev ends_lines : List ℕ → Bool
ends_lines xs = end_at_dot (lines_of xs)

dot_found : (fuel : ℕ) (xs : List ℕ) (n : ℕ) → length xs ≤ fuel → dot_length (lines_of xs) ≡ Some n → IsEnd ends_lines xs n
unfolding dot_length end_at_dot
dot_found fuel [] n h e = absurd (let f = ap dot_length lines_none in cc)
dot_found zero (c ∷ cs) n h e = absurd (omega arith)
dot_found (suc fuel) (c ∷ cs) n h e =
    let xs : List ℕ = c ∷ cs in
    let k = line_length xs in
    let line = take k xs in
    let ys = drop k xs in
    let some : 0 < k = line_some xs (omega arith) in
    let bound : k ≤ length xs = line_bound xs in
    let len : length line ≡ k = length-take-le k xs bound in
    let left : length ys ≡ length xs - k = length-drop k xs in
    let step : dot_length (line ∷ lines_of ys) ≡ Some n = sym (ap dot_length (lines_some xs (omega arith))) ∙ e in
    by_cases (is_dot_line line)
    (λ b. is_dot_line line ≡ b → (if b then Some (length line) else option_map (λ m. length line + m) (dot_length (lines_of ys))) ≡ Some n → IsEnd ends_lines xs n)
    (λ q p f.
    let same : k ≡ n = sym len ∙ same_Some (length line) n f in
    subst (IsEnd ends_lines xs) same (here xs (omega arith) p))
    (λ q p f.
    let more = some_more (length line) n (dot_length (lines_of ys)) f in
    let below : IsEnd ends_lines ys more.0 = dot_found fuel ys more.0 (omega arith) more.1 in
    let inside = below.inside in
    let same : k + more.0 ≡ n = ap (λ j. j + more.0) (sym len) ∙ sym more.2 in
    subst (IsEnd ends_lines xs) same record {
      some = omega arith;
      inside = omega arith;
      ends_it = ap end_at_dot (lines_take xs more.0 (omega arith)) ∙ ap (λ b. if b then is_none (lines_of (take more.0 ys)) else end_at_dot (lines_of (take more.0 ys))) p ∙ below.ends_it;
    })
    refl step
  where
    here : (zs : List ℕ) → 0 < length zs → is_dot_line (take (line_length zs) zs) ≡ true → IsEnd ends_lines zs (line_length zs)
    here zs some p = record {
      some = line_some zs some;
      inside = line_bound zs;
      ends_it =
          ap (λ n. end_at_dot (lines_of (take n zs))) (let e : line_length zs ≡ line_length zs + 0 = omega arith in e)
          ∙ ap end_at_dot (lines_take zs 0 some)
          ∙ ap (λ b. if b then is_none (lines_of []) else end_at_dot (lines_of [])) p
          ∙ ap is_none lines_none;
    }

dot_only : (fuel : ℕ) (xs : List ℕ) (m : ℕ) → m ≤ length xs → length xs ≤ fuel → end_at_dot (lines_of (take m xs)) ≡ true → dot_length (lines_of xs) ≡ Some m
unfolding dot_length end_at_dot
dot_only fuel [] zero h enough e = absurd (let f = ap end_at_dot lines_none in cc)
dot_only fuel [] (suc m) h enough e = absurd (omega arith)
dot_only zero (c ∷ cs) m h enough e = absurd (omega arith)
dot_only (suc fuel) (c ∷ cs) zero h enough e = absurd (let f = ap end_at_dot lines_none in cc)
dot_only (suc fuel) (c ∷ cs) (suc m) h enough e =
    split (line_length (c ∷ cs)) (suc m)
    (λ less.
    let one : end_at_dot (take (suc m) (c ∷ cs) ∷ []) ≡ true = sym (ap end_at_dot (lines_short (c ∷ cs) (suc m) (omega arith) less)) ∙ e in
    let bare = line_bare (c ∷ cs) (suc m) less in
    by_cases (is_dot_line (take (suc m) (c ∷ cs))) (λ b. is_dot_line (take (suc m) (c ∷ cs)) ≡ b → (if b then true else false) ≡ true → dot_length (lines_of (c ∷ cs)) ≡ Some (suc m))
    (λ q p f. absurd (let feed = dot_feed (take (suc m) (c ∷ cs)) p in cc))
    (λ q p f. cc) refl one)
    (λ k_at_most.
    let xs : List ℕ = c ∷ cs in
    let k = line_length xs in
    let line = take k xs in
    let ys = drop k xs in
    let n : ℕ = suc m - k in
    let sum : k + n ≡ suc m = omega arith in
    let some : 0 < k = line_some xs (omega arith) in
    let bound : k ≤ length xs = line_bound xs in
    let len : length line ≡ k = length-take-le k xs bound in
    let left : length ys ≡ length xs - k = length-drop k xs in
    let whole : end_at_dot (line ∷ lines_of (take n ys)) ≡ true =
    sym (ap end_at_dot (lines_take xs n (omega arith))) ∙ ap (λ j. end_at_dot (lines_of (take j xs))) sum ∙ e in
    ap dot_length (lines_some xs (omega arith))
    ∙ by_cases (is_dot_line line)
    (λ b. (if b then is_none (lines_of (take n ys)) else end_at_dot (lines_of (take n ys))) ≡ true → (if b then Some (length line) else option_map (λ j. length line + j) (dot_length (lines_of ys))) ≡ Some (suc m))
    (λ q f.
    let none : n ≡ 0 = lines_is_none ys n (omega arith) f in
    let same : length line ≡ suc m = omega arith in
    ap (λ j. Some j) same)
    (λ q f.
    let below : dot_length (lines_of ys) ≡ Some n = dot_only fuel ys n (omega arith) (omega arith) f in
    let same : length line + n ≡ suc m = omega arith in
    ap (option_map (λ j. length line + j)) below ∙ ap (λ j. Some j) same)
    whole)

-- MULTI-LINE STRINGS

pub multi_line_found : (xs : List ℕ) (n : ℕ) → multi_line_length (lines_of xs) ≡ Some n → IsEnd is_multi_line xs n
unfolding multi_line_length are_multi_line is_multi_line
multi_line_found [] n e = absurd (let f = ap multi_line_length lines_none in cc)
multi_line_found (c ∷ cs) n e =
    let xs : List ℕ = c ∷ cs in
    let k = line_length xs in
    let line = take k xs in
    let ys = drop k xs in
    let some : 0 < k = line_some xs (omega arith) in
    let bound : k ≤ length xs = line_bound xs in
    let len : length line ≡ k = length-take-le k xs bound in
    let left : length ys ≡ length xs - k = length-drop k xs in
    by_cases (is_opening line)
    (λ b. is_opening line ≡ b → (if b then option_map (λ m. length line + m) (dot_length (lines_of ys)) else None) ≡ Some n → IsEnd is_multi_line xs n)
    (λ q p f.
    let more = some_more (length line) n (dot_length (lines_of ys)) f in
    let below : IsEnd ends_lines ys more.0 = dot_found (length ys) ys more.0 (omega arith) more.1 in
    let inside = below.inside in
    let same : k + more.0 ≡ n = ap (λ j. j + more.0) (sym len) ∙ sym more.2 in
    subst (IsEnd is_multi_line xs) same record {
      some = omega arith;
      inside = omega arith;
      ends_it = ap are_multi_line (lines_take xs more.0 (omega arith)) ∙ ap (λ b. b && end_at_dot (lines_of (take more.0 ys))) p ∙ below.ends_it;
    })
    (λ q p f. cc)
    refl (sym (ap multi_line_length (lines_some xs (omega arith))) ∙ e)

pub multi_line_only : (xs : List ℕ) (m : ℕ) → m ≤ length xs → is_multi_line (take m xs) ≡ true → multi_line_length (lines_of xs) ≡ Some m
unfolding multi_line_length are_multi_line is_multi_line end_at_dot
multi_line_only [] zero h e = absurd (let f = ap are_multi_line lines_none in cc)
multi_line_only [] (suc m) h e = absurd (omega arith)
multi_line_only (c ∷ cs) zero h e = absurd (let f = ap are_multi_line lines_none in cc)
multi_line_only (c ∷ cs) (suc m) h e =
    split (line_length (c ∷ cs)) (suc m)
    (λ less.
    let one : are_multi_line (take (suc m) (c ∷ cs) ∷ []) ≡ true = sym (ap are_multi_line (lines_short (c ∷ cs) (suc m) (omega arith) less)) ∙ e in
    absurd (let f = and_right (is_opening (take (suc m) (c ∷ cs))) false one in cc))
    (λ k_at_most.
    let xs : List ℕ = c ∷ cs in
    let k = line_length xs in
    let line = take k xs in
    let ys = drop k xs in
    let n : ℕ = suc m - k in
    let sum : k + n ≡ suc m = omega arith in
    let some : 0 < k = line_some xs (omega arith) in
    let bound : k ≤ length xs = line_bound xs in
    let len : length line ≡ k = length-take-le k xs bound in
    let left : length ys ≡ length xs - k = length-drop k xs in
    let whole : (is_opening line && end_at_dot (lines_of (take n ys))) ≡ true =
    sym (ap are_multi_line (lines_take xs n (omega arith))) ∙ ap (λ j. are_multi_line (lines_of (take j xs))) sum ∙ e in
    let below : dot_length (lines_of ys) ≡ Some n = dot_only (length ys) ys n (omega arith) (omega arith) (and_right (is_opening line) _ whole) in
    let same : length line + n ≡ suc m = omega arith in
    ap multi_line_length (lines_some xs (omega arith))
    ∙ ap (λ b. if b then option_map (λ j. length line + j) (dot_length (lines_of ys)) else None) (and_left (is_opening line) _ whole)
    ∙ ap (option_map (λ j. length line + j)) below ∙ ap (λ j. Some j) same)

-- THE OPENING

either_letter : (c a b : ℕ) → begins_name a ≡ true → begins_name b ≡ true → ((c == a) || (c == b)) ≡ true → begins_name c ≡ true
either_letter c a b p q e =
    by_cases (c == a) (λ t. (c == a) ≡ t → (t || (c == b)) ≡ true → begins_name c ≡ true)
    (λ x f g. ap begins_name (eqb-true c a f) ∙ p) (λ x f g. ap begins_name (eqb-true c b g) ∙ q) refl e

-- the text begins with four octets that may begin a name, and a colon, as a multi-line string does
pub record IsTextColon (xs : List ℕ) : Type 0 where
  pub t : ℕ
  pub e : ℕ
  pub x : ℕ
  pub u : ℕ
  pub rest : List ℕ
  pub is : xs ≡ t ∷ e ∷ x ∷ u ∷ octet_of ":" ∷ rest
  pub letter_t : begins_name t ≡ true
  pub letter_e : begins_name e ≡ true
  pub letter_x : begins_name x ≡ true
  pub letter_u : begins_name u ≡ true

opening_parts : (line : List ℕ) → is_opening line ≡ true → IsTextColon line
unfolding is_opening
opening_parts (t ∷ e ∷ x ∷ u ∷ c ∷ cs) h =
    let symbol = and_left (spells_text t e x u) _ h in
    let first = and_left (t == octet_of "t" || (t == octet_of "T")) _ symbol in
    let three = and_right (t == octet_of "t" || (t == octet_of "T")) _ symbol in
    let second = and_left (e == octet_of "e" || (e == octet_of "E")) _ three in
    let two = and_right (e == octet_of "e" || (e == octet_of "E")) _ three in
    let colon = and_left (c == octet_of ":") _ (and_right (spells_text t e x u) _ h) in
    record {
      t = t;
      e = e;
      x = x;
      u = u;
      rest = cs;
      is = ap (λ d. t ∷ e ∷ x ∷ u ∷ d ∷ cs) (eqb-true c (octet_of ":") colon);
      letter_t = either_letter t (octet_of "t") (octet_of "T") refl refl first;
      letter_e = either_letter e (octet_of "e") (octet_of "E") refl refl second;
      letter_x = either_letter x (octet_of "x") (octet_of "X") refl refl (and_left (x == octet_of "x" || (x == octet_of "X")) _ two);
      letter_u = either_letter u (octet_of "t") (octet_of "T") refl refl (and_right (x == octet_of "x" || (x == octet_of "X")) _ two);
    }
opening_parts [] h = cc
opening_parts (t ∷ []) h = cc
opening_parts (t ∷ e ∷ []) h = cc
opening_parts (t ∷ e ∷ x ∷ []) h = cc
opening_parts (t ∷ e ∷ x ∷ u ∷ []) h = cc

opening_colon : (xs : List ℕ) (k : ℕ) → is_opening (take k xs) ≡ true → IsTextColon xs × (5 ≤ length (take k xs))
opening_colon xs k h =
    let p : IsTextColon (take k xs) = opening_parts (take k xs) h in
    let len = ap length p.is in (
      record {
        t = p.t;
        e = p.e;
        x = p.x;
        u = p.u;
        rest = p.rest ++ drop k xs;
        is = sym (take-append-drop k xs) ∙ ap (λ l. l ++ drop k xs) p.is;
        letter_t = p.letter_t;
        letter_e = p.letter_e;
        letter_x = p.letter_x;
        letter_u = p.letter_u;
      },
      omega arith,
    )

pub multi_line_colon : (xs : List ℕ) (n : ℕ) → multi_line_length (lines_of xs) ≡ Some n → IsTextColon xs × (5 ≤ n)
unfolding multi_line_length
multi_line_colon [] n e = absurd (let f = ap multi_line_length lines_none in cc)
multi_line_colon (c ∷ cs) n e =
    let xs : List ℕ = c ∷ cs in
    let k = line_length xs in
    let line = take k xs in
    let ys = drop k xs in
    by_cases (is_opening line)
    (λ b. is_opening line ≡ b → (if b then option_map (λ m. length line + m) (dot_length (lines_of ys)) else None) ≡ Some n → IsTextColon xs × (5 ≤ n))
    (λ q p f.
    let more = some_more (length line) n (dot_length (lines_of ys)) f in
    let o = opening_colon xs k p in
    let long = o.1 in let sum = more.2 in
    (o.0, omega arith))
    (λ q p f. cc)
    refl (sym (ap multi_line_length (lines_some xs (omega arith))) ∙ e)
