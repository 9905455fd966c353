-- Where lines end.
use Rattle.octets.specs.Octet.{octet_of}
use Rattle.std.proofs.Common.{◌≡◌, ◌≢◌, ℕ, ◌+◌, ◌<◌, ◌≤◌, List, [], ◌∷◌, ◌++◌, length, get_or, take, drop, sym, ap, ◌∙◌, refl, arith, Option, None, Some, Bool, true, false, eqb, suc, cond, take-append-drop, length-take, get_or-take, append_assoc, append-nil, length-append, ◌⊎◌, inl, inr}
use Rattle.std.specs.Option.{option_map}
use Rattle.std.proofs.lemmas.Bool.Decides.{nat_tests}
use Rattle.std.proofs.lemmas.List.{drop_more, take_more, take_all}
use Rattle.sieve_limits.specs.Limits.{line_limit}
use Rattle.session_text.specs.SessionLine.{cut_line, put_before, without_cr, first_line, line_from, is_long_so_far}

-- a cut with these octets before its line
abbrev after : List ℕ → List ℕ × List ℕ → List ℕ × List ℕ
after front cut = (front ++ cut.0, cut.1)

-- no option is something and nothing at once
apart : {X : Type 0} (r : Option X) (x : X) → r ≡ Some x → r ≡ None → ⊥
apart r x some none = cc

-- the cut of an empty line and the rest after it
abbrev empty_line : List ℕ → List ℕ × List ℕ
empty_line rest = ([], rest)

mapped_none : (b : ℕ) (r : Option (List ℕ × List ℕ)) → option_map (put_before b) r ≡ None → r ≡ None
mapped_none b None is = refl
mapped_none b (Some cut) is = absurd (apart _ (put_before b cut) refl is)

after_both : (b : ℕ) (bs : List ℕ) (r : Option (List ℕ × List ℕ)) → option_map (put_before b) (option_map (after bs) r) ≡ option_map (after (b ∷ bs)) r
after_both b bs None = refl
after_both b bs (Some cut) = refl

after_nothing : (r : Option (List ℕ × List ℕ)) → r ≡ option_map (after []) r
after_nothing None = refl
after_nothing (Some cut) = refl

none_at : (b : ℕ) (bs more : List ℕ) (v : Bool) → (cut_line bs ≡ None → cut_line (bs ++ more) ≡ option_map (after bs) (cut_line more))
    → cond v (Some (empty_line bs)) (option_map (put_before b) (cut_line bs)) ≡ None
    → cond v (Some (empty_line (bs ++ more))) (option_map (put_before b) (cut_line (bs ++ more))) ≡ option_map (after (b ∷ bs)) (cut_line more)
none_at b bs more true later none = absurd (apart _ (empty_line bs) refl none)
none_at b bs more false later none =
    ap (option_map (put_before b)) (later (mapped_none b (cut_line bs) none)) ∙ after_both b bs (cut_line more)

-- octets without an LF stand before the line that is cut from the octets after them
pub cut_line-none : (bs more : List ℕ) → cut_line bs ≡ None → cut_line (bs ++ more) ≡ option_map (after bs) (cut_line more)
cut_line-none [] more none = after_nothing (cut_line more)
cut_line-none (b ∷ bs) more none = none_at b bs more (eqb b (octet_of "\n")) (cut_line-none bs more) none

mapped_some : (b : ℕ) (more : List ℕ) (r s : Option (List ℕ × List ℕ)) (line rest : List ℕ)
    → ((l t : List ℕ) → r ≡ Some (l, t) → s ≡ Some (l, t ++ more)) → option_map (put_before b) r ≡ Some (line, rest)
    → option_map (put_before b) s ≡ Some (line, rest ++ more)
mapped_some b more None s line rest later found = absurd (apart _ _ found refl)
mapped_some b more (Some cut) s line rest later found =
    let whole : put_before b cut ≡ (line, rest) = cc in
    let same : b ∷ cut.0 ≡ line = ap (λ (p : List ℕ × List ℕ). p.0) whole in
    let left : cut.1 ≡ rest = ap (λ (p : List ℕ × List ℕ). p.1) whole in
    rw (later cut.0 cut.1 refl) (ap (λ l. Some (l, cut.1 ++ more)) same ∙ ap (λ t. Some (line, t ++ more)) left)

some_at : (b : ℕ) (bs more : List ℕ) (v : Bool) (line rest : List ℕ) → ((l t : List ℕ) → cut_line bs ≡ Some (l, t) → cut_line (bs ++ more) ≡ Some (l, t ++ more))
    → cond v (Some (empty_line bs)) (option_map (put_before b) (cut_line bs)) ≡ Some (line, rest)
    → cond v (Some (empty_line (bs ++ more))) (option_map (put_before b) (cut_line (bs ++ more))) ≡ Some (line, rest ++ more)
some_at b bs more true line rest later found =
    let whole : empty_line bs ≡ (line, rest) = cc in
    let same : (empty_line bs).0 ≡ line = ap (λ (p : List ℕ × List ℕ). p.0) whole in
    let left : bs ≡ rest = ap (λ (p : List ℕ × List ℕ). p.1) whole in
    ap (λ l. Some (l, bs ++ more)) same ∙ ap (λ t. Some (line, t ++ more)) left
some_at b bs more false line rest later found = mapped_some b more (cut_line bs) (cut_line (bs ++ more)) line rest later found

-- where octets have an LF, the octets after them are after the rest of the line
pub cut_line-some : (bs more line rest : List ℕ) → cut_line bs ≡ Some (line, rest) → cut_line (bs ++ more) ≡ Some (line, rest ++ more)
cut_line-some [] more line rest found = absurd (apart _ _ found refl)
cut_line-some (b ∷ bs) more line rest found = some_at b bs more (eqb b (octet_of "\n")) line rest (cut_line-some bs more) found

-- octets without an LF are not cut
pub cut_line-absent : (bs : List ℕ) → ((k : ℕ) → k < length bs → get_or bs k 0 ≢ octet_of "\n") → cut_line bs ≡ None
cut_line-absent [] none = refl
cut_line-absent (b ∷ bs) none =
    let here : b ≢ octet_of "\n" = none 0 (omega arith) in
    let later = cut_line-absent bs (λ k within. none (suc k) (omega arith)) in
    grind (arith, nat_tests, later)

-- octets without an LF, and then an LF, are cut at this LF
cut_line-front : (front rest : List ℕ) → ((k : ℕ) → k < length front → get_or front k 0 ≢ octet_of "\n") → cut_line (front ++ octet_of "\n" ∷ rest) ≡ Some (front, rest)
cut_line-front [] rest none = refl
cut_line-front (b ∷ bs) rest none =
    let here : b ≢ octet_of "\n" = none 0 (omega arith) in
    let later = cut_line-front bs rest (λ k within. none (suc k) (omega arith)) in
    grind (arith, nat_tests, later)

-- a line ends at the first LF
pub cut_line-at : (bs : List ℕ) (i : ℕ) → i < length bs → ((k : ℕ) → k < i → get_or bs k 0 ≢ octet_of "\n") → get_or bs i 0 ≡ octet_of "\n" → cut_line bs ≡ Some (take i bs, drop (i + 1) bs)
cut_line-at bs i within before here =
    ap cut_line (sym (take-append-drop i bs) ∙ ap (λ l. take i bs ++ l) (drop_more bs i 0 within ∙ ap (λ b. b ∷ drop (i + 1) bs) here))
    ∙ cut_line-front (take i bs) (drop (i + 1) bs) (λ k below. let under : k < i = omega (arith, length-take i bs) in rw get_or-take (before k under))

-- the octets after the first LF don't matter to the line that it ends
pub cut_line-within : (bs : List ℕ) (i : ℕ) → i < length bs → ((k : ℕ) → k < i → get_or bs k 0 ≢ octet_of "\n") → get_or bs i 0 ≡ octet_of "\n" → (more : List ℕ) → cut_line (take (i + 1) bs ++ more) ≡ Some (take i bs, more)
cut_line-within bs i within before here more =
    ap (λ l. cut_line (l ++ more)) (take_more bs i 0 within ∙ ap (λ b. take i bs ++ b ∷ []) here)
    ∙ ap cut_line (append_assoc (take i bs) (octet_of "\n" ∷ []) more)
    ∙ cut_line-front (take i bs) more (λ k below. let under : k < i = omega (arith, length-take i bs) in rw get_or-take (before k under))

-- a CR at the end is dropped, and no other octet
pub without_cr-last : (bs : List ℕ) (b : ℕ) → without_cr (bs ++ b ∷ []) ≡ cond (eqb b (octet_of "\r")) bs (bs ++ b ∷ [])
without_cr-last [] b = refl
without_cr-last (a ∷ []) b = one (eqb b (octet_of "\r"))
  where
    one : (v : Bool) → a ∷ cond v [] (b ∷ []) ≡ cond v (a ∷ []) (a ∷ b ∷ [])
    one true = refl
    one false = refl
without_cr-last (a ∷ c ∷ bs) b = ap (λ l. a ∷ l) (without_cr-last (c ∷ bs) b) ∙ more (eqb b (octet_of "\r"))
  where
    more : (v : Bool) → a ∷ cond v (c ∷ bs) ((c ∷ bs) ++ b ∷ []) ≡ cond v (a ∷ c ∷ bs) ((a ∷ c ∷ bs) ++ b ∷ [])
    more true = refl
    more false = refl

-- of the octets up to place i and with it, a CR at this place is dropped
pub without_cr-take : (bs : List ℕ) (i : ℕ) → i < length bs → without_cr (take (i + 1) bs) ≡ cond (eqb (get_or bs i 0) (octet_of "\r")) (take i bs) (take (i + 1) bs)
without_cr-take bs i within =
    ap without_cr (take_more bs i 0 within) ∙ without_cr-last (take i bs) (get_or bs i 0) ∙ ap (cond (eqb (get_or bs i 0) (octet_of "\r")) (take i bs)) (sym (take_more bs i 0 within))

-- the last octet stays, where it is no CR
pub without_cr-kept : (bs : List ℕ) (i : ℕ) → length bs ≡ i + 1 → get_or bs i 0 ≢ octet_of "\r" → without_cr bs ≡ bs
without_cr-kept bs i len is =
    let step = without_cr-take bs i (omega arith) in
    let whole : take (i + 1) bs ≡ bs = take_all (i + 1) bs (omega arith) in
    grind (arith, nat_tests, step, whole)

-- dropping a CR drops one octet at most
pub length-without_cr : (bs : List ℕ) → length bs ≤ length (without_cr bs) + 1
length-without_cr [] = omega arith
length-without_cr (b ∷ []) = one (eqb b (octet_of "\r"))
  where
    one : (v : Bool) → length (b ∷ []) ≤ length (cond v [] (b ∷ [])) + 1
    one true = omega arith
    one false = omega arith
length-without_cr (b ∷ c ∷ bs) = omega (arith, length-without_cr (c ∷ bs))

-- dropping a CR adds no octets
length-without_cr-le : (bs : List ℕ) → length (without_cr bs) ≤ length bs
length-without_cr-le [] = omega arith
length-without_cr-le (b ∷ []) = one (eqb b (octet_of "\r"))
  where
    one : (v : Bool) → length (cond v [] (b ∷ [])) ≤ length (b ∷ [])
    one true = omega arith
    one false = omega arith
length-without_cr-le (b ∷ c ∷ bs) = omega (arith, length-without_cr-le (c ∷ bs))

-- octets within the limit of a line, or with a CR alone past it, may still become a line
pub may_be_line : (bs : List ℕ) → (length bs ≤ line_limit) ⊎ ((length bs ≡ line_limit + 1) × (get_or bs line_limit 0 ≡ octet_of "\r")) → is_long_so_far bs ≡ false
may_be_line bs (inl few) =
    let less : length (without_cr bs) ≤ line_limit = omega (arith, length-without_cr-le bs, few) in
    grind (arith, nat_tests, less)
may_be_line bs (inr h) =
    let step : without_cr (take (line_limit + 1) bs) ≡ cond (eqb (get_or bs line_limit 0) (octet_of "\r")) (take line_limit bs) (take (line_limit + 1) bs) = without_cr-take bs line_limit (omega (arith, h.0)) in
    let whole : take (line_limit + 1) bs ≡ bs = take_all (line_limit + 1) bs (omega (arith, h.0)) in
    let cut : without_cr bs ≡ take line_limit bs = ap without_cr (sym whole) ∙ step ∙ rw h.1 refl in
    let less : length (without_cr bs) ≤ line_limit = omega (arith, ap length cut, length-take line_limit bs) in
    grind (arith, nat_tests, less)

-- the line that an LF ends
pub first_line-found : (bs line rest more : List ℕ) → cut_line bs ≡ Some (line, rest) → first_line (bs ++ more) ≡ (without_cr line, rest ++ more)
unfolding first_line
first_line-found bs line rest more found = ap (line_from (bs ++ more)) (cut_line-some bs more line rest found)

-- the line that the end of the octets ends
pub first_line-last : (bs : List ℕ) → cut_line bs ≡ None → first_line (bs ++ []) ≡ (bs, [])
unfolding first_line
first_line-last bs none = rw append-nil (ap (line_from bs) none)

-- octets without an LF that are too many for a line, whatever follows them
pub first_line-long : (bs more : List ℕ) → cut_line bs ≡ None → (line_limit + 1 < length bs) ⊎ ((length bs ≡ line_limit + 1) × (get_or bs line_limit 0 ≢ octet_of "\r")) → line_limit < length (first_line (bs ++ more)).0
unfolding first_line
first_line-long bs more none long = rw (cut_line-none bs more none) (by_cut (cut_line more))
  where
    by_rest : (rest : List ℕ) → (line_limit + 1 < length bs) ⊎ ((length bs ≡ line_limit + 1) × (get_or bs line_limit 0 ≢ octet_of "\r")) → line_limit < length (without_cr (bs ++ rest))
    by_rest rest (inl h) = omega (arith, length-without_cr (bs ++ rest), length-append bs rest)
    by_rest [] (inr h) = rw append-nil (rw (without_cr-kept bs line_limit h.0 h.1) (omega (arith, h.0)))
    by_rest (b ∷ rest) (inr h) = omega (arith, length-without_cr (bs ++ b ∷ rest), length-append bs (b ∷ rest), h.0)

    by_cut : (r : Option (List ℕ × List ℕ)) → line_limit < length (line_from (bs ++ more) (option_map (after bs) r)).0
    by_cut None = elim long [ inl h ↦ omega (arith, length-append bs more) | inr h ↦ omega (arith, length-append bs more, h.0) ]
    by_cut (Some cut) = by_rest cut.0 long
