-- The first line of a multi-line string, from the front of a text.
use Rattle.std.proofs.Common.{◌≡◌, ℕ, zero, suc, ◌+◌, ◌<◌, ◌==◌, ◌||◌, ◌&&◌, Bool, true, false, if◌then◌else◌, List, [], ◌∷◌, length, take, drop, Option, Some, None, refl, sym, ap, ◌∙◌, subst, arith}
use Rattle.std.specs.Option.{option_map}
use Rattle.std.proofs.lemmas.Bool.{eqb-true}
use Rattle.std.proofs.lemmas.Bool.Decides.{nat_tests}
use Rattle.std.proofs.lemmas.List.{length-take, length-take-le}
use Rattle.octets.specs.Octet.{is_blank, octet_of}
use Rattle.sieve_syntax.specs.Line.{line_length, lines_of, is_line_end}
use Rattle.sieve_syntax.specs.Scan.{shifted, dot_length, opening_stop, opening_end, opening_length, multi_line_length}
use Rattle.sieve_syntax.specs.Spelling.{spells_text, ends_opening, is_opening}
use Rattle.sieve_syntax.specs.White.{begins_with}
use Rattle.sieve_syntax.proofs.Cases.{by_cases, and_left, and_right}
use Rattle.sieve_syntax.proofs.Lines.{line_bound, line_some, lines_some, lines_none}

-- the length where the test holds
abbrev given : Bool → ℕ → Option ℕ
given b n = if b then Some n else None

given_suc : (b : Bool) (n : ℕ) → option_map suc (given b n) ≡ given b (suc n)
given_suc true n = refl
given_suc false n = refl

line_more : (c : ℕ) (cs : List ℕ) → (c == octet_of "\n") ≡ false → line_length (c ∷ cs) ≡ suc (line_length cs)
unfolding line_length
line_more c cs e = ap (λ b. if b then 1 else suc (line_length cs)) e

space_only : (c : ℕ) → is_blank c ≡ true → (c == octet_of "\n") ≡ false
space_only c e = grind (arith, nat_tests)

-- a line that a CR begins is a line end where an LF comes next
cr_end : (cs : List ℕ) → is_line_end (octet_of "\r" ∷ take (line_length cs) cs) ≡ begins_with (octet_of "\n") cs
unfolding is_line_end line_length
cr_end [] = refl
cr_end (d ∷ ds) =
    by_cases (d == octet_of "\n") (λ b. (d == octet_of "\n") ≡ b → is_line_end (octet_of "\r" ∷ take (if b then 1 else suc (line_length ds)) (d ∷ ds)) ≡ b)
    (λ e f. f) (λ e f. other d (take (line_length ds) ds) f) refl
  where
    other : (x : ℕ) (xs : List ℕ) → (x == octet_of "\n") ≡ false → is_line_end (octet_of "\r" ∷ x ∷ xs) ≡ false
    other x [] f = f
    other x (y ∷ ys) f = refl

other_end : (c : ℕ) (line : List ℕ) → (c == octet_of "\n") ≡ false → (c == octet_of "\r") ≡ false → is_line_end (c ∷ line) ≡ false
unfolding is_line_end
other_end c [] e f = e
other_end c (d ∷ []) e f = ap (λ b. b && (d == octet_of "\n")) f
other_end c (d ∷ x ∷ xs) e f = refl

stop_lf : (cs : List ℕ) → opening_stop (octet_of "\n" ∷ cs) ≡ given ((octet_of "\n" == octet_of "#") || is_line_end (take (line_length (octet_of "\n" ∷ cs)) (octet_of "\n" ∷ cs))) (line_length (octet_of "\n" ∷ cs))
unfolding opening_stop is_line_end line_length
stop_lf cs = refl

cr_given : (cs : List ℕ) → (if begins_with (octet_of "\n") cs then Some 2 else None) ≡ given (begins_with (octet_of "\n") cs) (suc (line_length cs))
unfolding line_length
cr_given [] = refl
cr_given (d ∷ ds) = by_cases (d == octet_of "\n") (λ b. (if b then Some 2 else None) ≡ given b (suc (if b then 1 else suc (line_length ds)))) (λ e. refl) (λ e. refl)

stop_cr : (cs : List ℕ) → opening_stop (octet_of "\r" ∷ cs) ≡ given ((octet_of "\r" == octet_of "#") || is_line_end (take (line_length (octet_of "\r" ∷ cs)) (octet_of "\r" ∷ cs))) (line_length (octet_of "\r" ∷ cs))
unfolding opening_stop line_length
stop_cr cs = cr_given cs ∙ ap (λ b. given b (suc (line_length cs))) (sym (cr_end cs))

stop_other : (c : ℕ) (cs : List ℕ) → (c == octet_of "\n") ≡ false → (c == octet_of "\r") ≡ false → opening_stop (c ∷ cs) ≡ given ((c == octet_of "#") || is_line_end (c ∷ take (line_length cs) cs)) (line_length (c ∷ cs))
unfolding opening_stop
stop_other c cs e f =
    ap (λ b. if b then Some 1 else (if (c == octet_of "\r") && begins_with (octet_of "\n") cs then Some 2 else (if c == octet_of "#" then Some (line_length (c ∷ cs)) else None))) e
    ∙ ap (λ b. if b && begins_with (octet_of "\n") cs then Some 2 else (if c == octet_of "#" then Some (line_length (c ∷ cs)) else None)) f
    ∙ by_cases (c == octet_of "#") (λ b. (if b then Some (line_length (c ∷ cs)) else None) ≡ given (b || is_line_end (c ∷ take (line_length cs) cs)) (line_length (c ∷ cs)))
    (λ g. refl) (λ g. ap (λ b. given b (line_length (c ∷ cs))) (sym (other_end c (take (line_length cs) cs) e f)))

stop_is : (c : ℕ) (cs : List ℕ) → opening_stop (c ∷ cs) ≡ given ((c == octet_of "#") || is_line_end (take (line_length (c ∷ cs)) (c ∷ cs))) (line_length (c ∷ cs))
stop_is c cs =
    by_cases (c == octet_of "\n") (λ b. (c == octet_of "\n") ≡ b → opening_stop (c ∷ cs) ≡ given ((c == octet_of "#") || is_line_end (take (line_length (c ∷ cs)) (c ∷ cs))) (line_length (c ∷ cs)))
    (λ q e. subst (λ x. opening_stop (x ∷ cs) ≡ given ((x == octet_of "#") || is_line_end (take (line_length (x ∷ cs)) (x ∷ cs))) (line_length (x ∷ cs))) (sym (eqb-true c (octet_of "\n") e)) (stop_lf cs))
    (λ q e. by_cases (c == octet_of "\r") (λ b. (c == octet_of "\r") ≡ b → opening_stop (c ∷ cs) ≡ given ((c == octet_of "#") || is_line_end (take (line_length (c ∷ cs)) (c ∷ cs))) (line_length (c ∷ cs)))
    (λ r f. subst (λ x. opening_stop (x ∷ cs) ≡ given ((x == octet_of "#") || is_line_end (take (line_length (x ∷ cs)) (x ∷ cs))) (line_length (x ∷ cs))) (sym (eqb-true c (octet_of "\r") f)) (stop_cr cs))
    (λ r f. stop_other c cs e f ∙ ap (λ n. given ((c == octet_of "#") || is_line_end (take n (c ∷ cs))) (line_length (c ∷ cs))) (sym (line_more c cs e)))
    refl)
    refl

ends_step : (c : ℕ) (cs : List ℕ) (n : ℕ) → 0 < n → is_blank c ≡ false → ends_opening (take n (c ∷ cs)) ≡ ((c == octet_of "#") || is_line_end (take n (c ∷ cs)))
unfolding ends_opening
ends_step c cs zero h e = absurd (omega arith)
ends_step c cs (suc n) h e = ap (λ b. if b then ends_opening (take n cs) else ((c == octet_of "#") || is_line_end (c ∷ take n cs))) e

ends_space : (c : ℕ) (cs : List ℕ) → is_blank c ≡ true → ends_opening (take (line_length (c ∷ cs)) (c ∷ cs)) ≡ ends_opening (take (line_length cs) cs)
unfolding ends_opening
ends_space c cs e =
    ap (λ n. ends_opening (take n (c ∷ cs))) (line_more c cs (space_only c e))
    ∙ ap (λ b. if b then ends_opening (take (line_length cs) cs) else ((c == octet_of "#") || is_line_end (c ∷ take (line_length cs) cs))) e

end_is : (cs : List ℕ) → opening_end cs ≡ given (ends_opening (take (line_length cs) cs)) (line_length cs)
unfolding opening_end ends_opening line_length
end_is [] = refl
end_is (c ∷ cs) =
    let below = end_is cs in
    by_cases (is_blank c) (λ b. is_blank c ≡ b → (if b then option_map suc (opening_end cs) else opening_stop (c ∷ cs)) ≡ given (ends_opening (take (line_length (c ∷ cs)) (c ∷ cs))) (line_length (c ∷ cs)))
    (λ q e.
    ap (option_map suc) below ∙ given_suc (ends_opening (take (line_length cs) cs)) (line_length cs)
    ∙ ap (λ b. given b (suc (line_length cs))) (sym (ends_space c cs e))
    ∙ ap (given (ends_opening (take (line_length (c ∷ cs)) (c ∷ cs)))) (sym (line_more c cs (space_only c e))))
    (λ q e. stop_is c cs ∙ ap (λ b. given b (line_length (c ∷ cs))) (sym (ends_step c cs (line_length (c ∷ cs)) (line_some (c ∷ cs) (omega arith)) e)))
    refl

-- no front of a text that doesn't begin with `text:` is the first line of a multi-line string
no_opening : (t e x u c : ℕ) (cs : List ℕ) (n : ℕ) → (spells_text t e x u && (c == octet_of ":")) ≡ false → is_opening (take n (t ∷ e ∷ x ∷ u ∷ c ∷ cs)) ≡ false
unfolding is_opening
no_opening t e x u c cs zero h = refl
no_opening t e x u c cs (suc zero) h = refl
no_opening t e x u c cs (suc (suc zero)) h = refl
no_opening t e x u c cs (suc (suc (suc zero))) h = refl
no_opening t e x u c cs (suc (suc (suc (suc zero)))) h = refl
no_opening t e x u c cs (suc (suc (suc (suc (suc n))))) h = nothing (spells_text t e x u) (c == octet_of ":") (ends_opening (take n cs)) h
  where
    nothing : (a b d : Bool) → (a && b) ≡ false → (a && (b && d)) ≡ false
    nothing true b d g = ap (λ y. y && d) g
    nothing false b d g = refl

few_opening : (line : List ℕ) → length line < 5 → is_opening line ≡ false
unfolding is_opening
few_opening [] h = refl
few_opening (t ∷ []) h = refl
few_opening (t ∷ e ∷ []) h = refl
few_opening (t ∷ e ∷ x ∷ []) h = refl
few_opening (t ∷ e ∷ x ∷ u ∷ []) h = refl
few_opening (t ∷ e ∷ x ∷ u ∷ c ∷ cs) h = absurd (omega arith)

short_opening : (xs : List ℕ) → length xs < 5 → None ≡ given (is_opening (take (line_length xs) xs)) (line_length xs)
short_opening xs h = ap (λ b. given b (line_length xs)) (sym (few_opening (take (line_length xs) xs) (omega (arith, length-take (line_length xs) xs))))

either_plain : (c a b : ℕ) → (a == octet_of "\n") ≡ false → (b == octet_of "\n") ≡ false → ((c == a) || (c == b)) ≡ true → (c == octet_of "\n") ≡ false
either_plain c a b p q e =
    by_cases (c == a) (λ t. (c == a) ≡ t → (t || (c == b)) ≡ true → (c == octet_of "\n") ≡ false)
    (λ x f g. ap (λ y. y == octet_of "\n") (eqb-true c a f) ∙ p) (λ x f g. ap (λ y. y == octet_of "\n") (eqb-true c b g) ∙ q) refl e

-- after `text:` the first line goes on
text_line : (t e x u c : ℕ) (cs : List ℕ) → spells_text t e x u ≡ true → (c == octet_of ":") ≡ true → line_length (t ∷ e ∷ x ∷ u ∷ c ∷ cs) ≡ suc (suc (suc (suc (suc (line_length cs)))))
text_line t e x u c cs symbol colon =
    let three = and_right (t == octet_of "t" || (t == octet_of "T")) _ symbol in
    let two = and_right (e == octet_of "e" || (e == octet_of "E")) _ three in
    line_more t _ (either_plain t (octet_of "t") (octet_of "T") refl refl (and_left (t == octet_of "t" || (t == octet_of "T")) _ symbol))
    ∙ ap suc (line_more e _ (either_plain e (octet_of "e") (octet_of "E") refl refl (and_left (e == octet_of "e" || (e == octet_of "E")) _ three))
    ∙ ap suc (line_more x _ (either_plain x (octet_of "x") (octet_of "X") refl refl (and_left (x == octet_of "x" || (x == octet_of "X")) _ two))
    ∙ ap suc (line_more u _ (either_plain u (octet_of "t") (octet_of "T") refl refl (and_right (x == octet_of "x" || (x == octet_of "X")) _ two))
    ∙ ap suc (line_more c cs (ap (λ y. y == octet_of "\n") (eqb-true c (octet_of ":") colon))))))

pub opening_is : (xs : List ℕ) → opening_length xs ≡ given (is_opening (take (line_length xs) xs)) (line_length xs)
unfolding opening_length is_opening
opening_is (t ∷ e ∷ x ∷ u ∷ c ∷ cs) =
    by_cases (spells_text t e x u && (c == octet_of ":"))
    (λ b. (spells_text t e x u && (c == octet_of ":")) ≡ b → (if b then option_map (λ n. 5 + n) (opening_end cs) else None) ≡ given (is_opening (take (line_length (t ∷ e ∷ x ∷ u ∷ c ∷ cs)) (t ∷ e ∷ x ∷ u ∷ c ∷ cs))) (line_length (t ∷ e ∷ x ∷ u ∷ c ∷ cs)))
    (λ q p.
    let symbol = and_left (spells_text t e x u) _ p in
    let colon = and_right (spells_text t e x u) _ p in
    let whole : (spells_text t e x u && ((c == octet_of ":") && ends_opening (take (line_length cs) cs))) ≡ ends_opening (take (line_length cs) cs) =
    ap (λ b. b && ((c == octet_of ":") && ends_opening (take (line_length cs) cs))) symbol ∙ ap (λ b. b && ends_opening (take (line_length cs) cs)) colon in
    ap (option_map (λ n. 5 + n)) (end_is cs)
    ∙ five (ends_opening (take (line_length cs) cs)) (line_length cs)
    ∙ ap (λ b. given b (suc (suc (suc (suc (suc (line_length cs))))))) (sym whole)
    ∙ ap (λ n. given (is_opening (take n (t ∷ e ∷ x ∷ u ∷ c ∷ cs))) n) (sym (text_line t e x u c cs symbol colon)))
    (λ q p. ap (λ b. given b (line_length (t ∷ e ∷ x ∷ u ∷ c ∷ cs))) (sym (no_opening t e x u c cs (line_length (t ∷ e ∷ x ∷ u ∷ c ∷ cs)) p)))
    refl
  where
    five : (b : Bool) (n : ℕ) → option_map (λ m. 5 + m) (given b n) ≡ given b (suc (suc (suc (suc (suc n)))))
    five true n = ap (λ m. Some m) (omega arith)
    five false n = refl
opening_is [] = short_opening [] (omega arith)
opening_is (t ∷ []) = short_opening (t ∷ []) (omega arith)
opening_is (t ∷ e ∷ []) = short_opening (t ∷ e ∷ []) (omega arith)
opening_is (t ∷ e ∷ x ∷ []) = short_opening (t ∷ e ∷ x ∷ []) (omega arith)
opening_is (t ∷ e ∷ x ∷ u ∷ []) = short_opening (t ∷ e ∷ x ∷ u ∷ []) (omega arith)

lines_first : (xs : List ℕ) → multi_line_length (lines_of xs) ≡ (if is_opening (take (line_length xs) xs) then shifted (line_length xs) (dot_length (lines_of (drop (line_length xs) xs))) else None)
unfolding multi_line_length
lines_first [] = ap multi_line_length lines_none ∙ ap (λ b. if b then shifted (line_length []) (dot_length (lines_of (drop (line_length []) []))) else None) (sym (few_opening (take (line_length []) []) (omega (arith, length-take {A = ℕ} (line_length []) []))))
lines_first (c ∷ cs) =
    let xs : List ℕ = c ∷ cs in
    let k = line_length xs in
    let line = take k xs in
    let len : length line ≡ k = length-take-le k xs (line_bound xs) in
    ap multi_line_length (lines_some xs (omega arith))
    ∙ ap (λ o. if is_opening line then o else None) (plain (length line) (dot_length (lines_of (drop k xs))) ∙ ap (λ n. shifted n (dot_length (lines_of (drop k xs)))) len)
  where
    plain : (n : ℕ) (o : Option ℕ) → option_map (λ m. n + m) o ≡ shifted n o
    plain n None = refl
    plain n (Some m) = refl

-- a multi-line string is as long as its first line and the lines up to a dot alone
pub multi_line_is : (xs : List ℕ) → multi_line_length (lines_of xs) ≡ elim (opening_length xs) as (λ z. Option ℕ) [ Some k ↦ shifted k (dot_length (lines_of (drop k xs))) | None ↦ None ]
multi_line_is xs =
    lines_first xs
    ∙ chosen (is_opening (take (line_length xs) xs)) (line_length xs)
    ∙ ap (λ o. elim o as (λ z. Option ℕ) [ Some k ↦ shifted k (dot_length (lines_of (drop k xs))) | None ↦ None ]) (sym (opening_is xs))
  where
    chosen : (b : Bool) (n : ℕ) → (if b then shifted n (dot_length (lines_of (drop n xs))) else None) ≡ elim (given b n) as (λ z. Option ℕ) [ Some k ↦ shifted k (dot_length (lines_of (drop k xs))) | None ↦ None ]
    chosen true n = refl
    chosen false n = refl
