-- Each text has one list of tokens.
use Rattle.std.proofs.Common.{◌≡◌, ℕ, zero, suc, ◌+◌, ◌-◌, ◌<◌, ◌≤◌, ◌⊎◌, inl, inr, IsTrue, nat_lt, if◌then◌else◌, List, [], ◌∷◌, length, take, drop, get_or, Option, Some, None, refl, sym, ap, ◌∙◌, subst, arith}
use Rattle.std.specs.List.{slice_range, All}
use Rattle.std.proofs.lemmas.Bool.{ltb-true, ltb-false}
use Rattle.std.proofs.lemmas.List.{length-drop, drop_all}
use Rattle.sieve_syntax.specs.Spelling.{spells}
use Rattle.sieve_syntax.specs.White.{white_at}
use Rattle.sieve_syntax.specs.Token.{line_at, White, nothing, white, IsLongest, IsBad, IsInside, SpellsFrom, Spells}
use Rattle.sieve_syntax.specs.Scan.{longest_at, token_at, tokens_from, tokens_of}
use Rattle.sieve_syntax.specs.declared.token.Token.{Token}
use Rattle.sieve_syntax.specs.declared.token.TokenKind.{TokenKind}
use Rattle.sieve_syntax.specs.declared.token.TokenKind.TheVariants.{Bad}
use Rattle.sieve_syntax.proofs.Cases.{by_cases, by_option}
use Rattle.sieve_syntax.proofs.Longest.{white_at_bounds, white_at_alone, IsFound, longest_at-found, IsAtMost, longest_at-most}

-- ONE STEP

pub step_white : (text : List ℕ) (place n : ℕ) (tokens : List Token) → white_at (drop place text) ≡ Some n → SpellsFrom text (place + n) tokens → SpellsFrom text place tokens
step_white text place n [] e h = white place n (length text) e h
step_white text place n (t ∷ ts) e h = (white place n t.start e h.0, h.1, h.2)

-- a range of the text is a front of the text from the place on
range-take : (text : List ℕ) (place n : ℕ) → slice_range text place (place + n) ≡ take n (drop place text)
range-take text place n =
    let e : (place + n) - place ≡ n = omega arith in
    ap (λ k. take k (drop place text)) e

pub longest-made : (text : List ℕ) (place : ℕ) (found : TokenKind × ℕ) → place ≤ length text → longest_at (drop place text) ≡ Some found → IsLongest text (token_at text place found.0 (place + found.1))
unfolding token_at
longest-made text place found h e =
    let f : IsFound (drop place text) found = longest_at-found (drop place text) found e in
    let len = length-drop place text in
    record {
      inside = omega (arith, f.inside);
      spelled = subst (λ symbol. IsTrue (spells found.0 symbol)) (sym (range-take text place found.1)) (f.spelled);
      longest = λ kind end within spelled.
          let most : IsAtMost (drop place text) kind (end - place) = longest_at-most (drop place text) kind (end - place) (omega arith) spelled in
          let same : most.found ≡ found = let i = most.is in cc in
          let bound : end - place ≤ found.1 = subst (λ x. end - place ≤ x.1) same most.most in
          omega arith;
    }

pub step_token : (text : List ℕ) (place : ℕ) (found : TokenKind × ℕ) (tokens : List Token) → place ≤ length text → longest_at (drop place text) ≡ Some found → SpellsFrom text (place + found.1) tokens → SpellsFrom text place (token_at text place found.0 (place + found.1) ∷ tokens)
unfolding token_at
step_token text place found tokens h e rest = (nothing place, refl, inl (longest-made text place found h e, rest))

pub step_bad : (text : List ℕ) (place : ℕ) → place < length text → white_at (drop place text) ≡ None → longest_at (drop place text) ≡ None → SpellsFrom text place (token_at text place Bad (length text) ∷ [])
unfolding token_at
step_bad text place h blank none = (
  nothing place,
  refl,
  inr (
    record {
      kind = refl;
      start = h;
      rest = refl;
      no_white = blank;
      no_spelling = λ kind end within spelled.
          let len = length-drop place text in
          let most : IsAtMost (drop place text) kind (end - place) = longest_at-most (drop place text) kind (end - place) (omega arith) spelled in
          let i = most.is in cc;
    },
    refl,
  ),
)

pub step_end : (text : List ℕ) (place : ℕ) → place ≡ length text → SpellsFrom text place []
step_end text place e = subst (λ n. White text place n) e (nothing place)

-- EACH TEXT HAS TOKENS

tokens_from-spell : (fuel : ℕ) (text : List ℕ) (place : ℕ) → place ≤ length text → length text ≤ place + fuel → SpellsFrom text place (tokens_from fuel text place)
unfolding tokens_from
tokens_from-spell zero text place h enough = step_end text place (omega arith)
tokens_from-spell (suc fuel) text place h enough =
    let len = length-drop place text in
    by_option (white_at (drop place text))
    (λ w. SpellsFrom text place (elim w [
      | Some n ↦ tokens_from fuel text (place + n)
      | None ↦ elim (longest_at (drop place text)) [
        | Some found ↦ token_at text place found.0 (place + found.1) ∷ tokens_from fuel text (place + found.1)
        | None ↦ if nat_lt place (length text) then token_at text place Bad (length text) ∷ [] else []
      ]
    ]))
    (λ n e.
    let b = white_at_bounds (drop place text) n e in
    step_white text place n _ e (tokens_from-spell fuel text (place + n) (omega (arith, b.0, b.1)) (omega (arith, b.0, b.1))))
    (λ blank. by_option (longest_at (drop place text))
    (λ l. SpellsFrom text place (elim l [
      | Some found ↦ token_at text place found.0 (place + found.1) ∷ tokens_from fuel text (place + found.1)
      | None ↦ if nat_lt place (length text) then token_at text place Bad (length text) ∷ [] else []
    ]))
    (λ found e.
    let f : IsFound (drop place text) found = longest_at-found (drop place text) found e in
    step_token text place found _ h e (tokens_from-spell fuel text (place + found.1) (omega (arith, f.some, f.inside)) (omega (arith, f.some, f.inside))))
    (λ none. by_cases (nat_lt place (length text)) (λ b. SpellsFrom text place (if b then token_at text place Bad (length text) ∷ [] else []))
    (λ q. step_bad text place (ltb-true place (length text) q) blank none)
    (λ q. let past : length text ≤ place = ltb-false place (length text) q in step_end text place (omega arith))))

pub tokens_of_spell : (text : List ℕ) → Spells (tokens_of text) text
unfolding tokens_of
tokens_of_spell text = tokens_from-spell (length text) text 0 (omega arith) (omega arith)

-- NO TEXT HAS TWO LISTS OF TOKENS

-- white space up to a place where none begins ends at that place
white-same : (text : List ℕ) (place a b : ℕ) → White text place a → White text place b → white_at (drop a text) ≡ None → white_at (drop b text) ≡ None → a ≡ b
white-same text place a b (nothing p) (nothing q) no_a no_b = refl
white-same text place a b (nothing p) (white q n end e w) no_a no_b = cc
white-same text place a b (white p n end e w) (nothing q) no_a no_b = cc
white-same text place a b (white p n end e w) (white q m to f v) no_a no_b =
    let same : m ≡ n = cc in
    white-same text (p + n) a b w (subst (λ k. White text (p + k) to) same v) no_a no_b

white_at-none : white_at [] ≡ None
unfolding white_at
white_at-none = refl

-- the facts of a longest spelling about the text at its place
record IsThere (text : List ℕ) (token : Token) : Type 0 where
  found : longest_at (drop token.start text) ≡ Some (token.kind, token.end - token.start)
  starts : token.start < token.end
  bare : white_at (drop token.start text) ≡ None

found_is : (o : Option (TokenKind × ℕ)) (k l : TokenKind) (m n : ℕ) → o ≡ Some (l, n) → k ≡ l → m ≡ n → o ≡ Some (k, m)
found_is o k l m n e f g = e ∙ ap (λ x. Some (x, n)) (sym f) ∙ ap (λ x. Some (k, x)) (sym g)

longest-there : (text : List ℕ) (token : Token) → IsLongest text token → IsThere text token
longest-there text token h =
    let rest = drop token.start text in
    let len = length-drop token.start text in
    let m = token.end - token.start in
    let inside = h.inside in
    let most : IsAtMost rest token.kind m = longest_at-most rest token.kind m (omega arith) h.spelled in
    let f : IsFound rest most.found = longest_at-found rest most.found most.is in
    let some = f.some in
    let within = f.inside in
    let bound = most.most in
    let reach : token.start + most.found.1 ≤ token.end =
    h.longest most.found.0 (token.start + most.found.1) (omega arith)
    (subst (λ symbol. IsTrue (spells most.found.0 symbol)) (sym (range-take text token.start most.found.1)) f.spelled) in
    let same : m ≡ most.found.1 = omega arith in
    record {
      found = found_is (longest_at rest) token.kind most.found.0 m most.found.1 most.is (most.only same) same;
      starts = omega arith;
      bare = by_option (white_at rest) (λ w. w ≡ None) (λ n e. absurd (let alone = white_at_alone rest n e in let i = most.is in cc)) (λ e. refl);
    }

-- no white space begins at the place of a token, and the token lies in the text
bare-here : (text : List ℕ) (token : Token) (more : Type 0) (less : Type 0) → (IsLongest text token × more) ⊎ (IsBad text token × less) → (white_at (drop token.start text) ≡ None) × (token.start < length text)
bare-here text token more less (inl h) =
    let there : IsThere text token = longest-there text token h.0 in
    let starts = there.starts in let inside = h.0.inside in (there.bare, omega arith)
bare-here text token more less (inr h) = (h.0.no_white, h.0.start)

-- two longest spellings at one place have one kind and one end
longest-same : (text : List ℕ) (t u : Token) → t.start ≡ u.start → IsLongest text t → IsLongest text u → (t.kind ≡ u.kind) × (t.end ≡ u.end)
longest-same text t u e h k =
    let a : IsThere text t = longest-there text t h in
    let b : IsThere text u = longest-there text u k in
    let p = a.found in let q = b.found in
    let same : longest_at (drop t.start text) ≡ longest_at (drop u.start text) = ap (λ n. longest_at (drop n text)) e in
    let pair : ◌≡◌ {A = TokenKind × ℕ} (t.kind, t.end - t.start) (u.kind, u.end - u.start) = cc in
    let kinds : t.kind ≡ u.kind = ap (λ x. x.0) pair in
    let lengths : t.end - t.start ≡ u.end - u.start = ap (λ x. x.1) pair in
    let s = a.starts in let r = b.starts in
    (kinds, omega arith)

not-both : (text : List ℕ) (t u : Token) → t.start ≡ u.start → IsLongest text t → IsBad text u → ⊥
not-both text t u e h bad =
    bad.no_spelling t.kind t.end h.inside (subst (λ start. IsTrue (spells t.kind (slice_range text start t.end))) e h.spelled)

same_token : (t u : Token) → t.kind ≡ u.kind → t.start ≡ u.start → t.end ≡ u.end → t.line ≡ u.line → t ≡ u
same_token t u k s e l = λ i. record { kind = k i; start = s i; end = e i; line = l i }

pub unique_from : (text : List ℕ) (place : ℕ) (ts us : List Token) → SpellsFrom text place ts → SpellsFrom text place us → ts ≡ us
unique_from text place [] [] h k = refl
unique_from text place [] (u ∷ us) h k =
    let there = bare-here text u _ _ k.2 in
    let ends : white_at (drop (length text) text) ≡ None = rw (drop_all (length text) text (omega arith)) white_at-none in
    let e = white-same text place (length text) u.start h k.0 ends there.0 in
    absurd (let b = there.1 in omega arith)
unique_from text place (t ∷ ts) [] h k =
    let there = bare-here text t _ _ h.2 in
    let ends : white_at (drop (length text) text) ≡ None = rw (drop_all (length text) text (omega arith)) white_at-none in
    let e = white-same text place t.start (length text) h.0 k there.0 ends in
    absurd (let b = there.1 in omega arith)
unique_from text place (t ∷ ts) (u ∷ us) h k =
    let starts : t.start ≡ u.start = white-same text place t.start u.start h.0 k.0 (bare-here text t _ _ h.2).0 (bare-here text u _ _ k.2).0 in
    let lines : t.line ≡ u.line = h.1 ∙ ap (line_at text) starts ∙ sym k.1 in
    go h.2 k.2 starts lines (λ e more. unique_from text u.end ts us (subst (λ n. SpellsFrom text n ts) e more))
  where
    go : (IsLongest text t × SpellsFrom text t.end ts) ⊎ (IsBad text t × (ts ≡ [])) →
        (IsLongest text u × SpellsFrom text u.end us) ⊎ (IsBad text u × (us ≡ [])) →
        t.start ≡ u.start → t.line ≡ u.line →
        (t.end ≡ u.end → SpellsFrom text t.end ts → SpellsFrom text u.end us → ts ≡ us) → t ∷ ts ≡ u ∷ us
    go (inl a) (inl b) starts lines below =
        let both = longest-same text t u starts a.0 b.0 in
        let one : t ≡ u = same_token t u both.0 starts both.1 lines in
        let others : ts ≡ us = below both.1 a.1 b.1 in
        cc
    go (inl a) (inr b) starts lines below = absurd (not-both text t u starts a.0 b.0)
    go (inr a) (inl b) starts lines below = absurd (not-both text u t (sym starts) b.0 a.0)
    go (inr a) (inr b) starts lines below =
        let one : t ≡ u = same_token t u (a.0.kind ∙ sym b.0.kind) starts (a.0.rest ∙ sym b.0.rest) lines in
        let p = a.1 in let q = b.1 in
        cc

pub unique : (text : List ℕ) (ts us : List Token) → Spells ts text → Spells us text → ts ≡ us
unique text ts us h k = unique_from text 0 ts us h k

token_inside : (text : List ℕ) (token : Token) (more less : Type 0) → (IsLongest text token × more) ⊎ (IsBad text token × less) → IsInside text token
token_inside text token more less (inl h) = record { some = (longest-there text token h.0).starts; inside = h.0.inside }
token_inside text token more less (inr h) =
    let start = h.0.start in let rest = h.0.rest in
    record { some = omega arith; inside = omega arith }

all_inside : (text : List ℕ) (t : Token) (ts : List Token) → IsInside text t → All (IsInside text) ts → (k : ℕ) (d : Token) → k < suc (length ts) → IsInside text (get_or (t ∷ ts) k d)
all_inside text t ts first rest zero d less = first
all_inside text t ts first rest (suc k) d less = rest k d (omega arith)

none_inside : (text : List ℕ) (ts : List Token) → ts ≡ [] → All (IsInside text) ts
none_inside text [] e = λ k d less. absurd (omega arith)
none_inside text (t ∷ ts) e = cc

-- each token of a text lies in it
pub spelled_inside : (text : List ℕ) (place : ℕ) (ts : List Token) → SpellsFrom text place ts → All (IsInside text) ts
spelled_inside text place [] h = λ k d less. absurd (omega arith)
spelled_inside text place (t ∷ ts) h = all_inside text t ts (token_inside text t _ _ h.2) (later h.2 (λ more. spelled_inside text t.end ts more))
  where
    later : (IsLongest text t × SpellsFrom text t.end ts) ⊎ (IsBad text t × (ts ≡ [])) → (SpellsFrom text t.end ts → All (IsInside text) ts) → All (IsInside text) ts
    later (inl a) below = below a.1
    later (inr a) below = none_inside text ts a.1

-- from each place on there are tokens
pub some_tokens : (text : List ℕ) (place : ℕ) → place ≤ length text → (tokens : List Token) × SpellsFrom text place tokens
some_tokens text place h = (tokens_from (length text) text place, tokens_from-spell (length text) text place h (omega arith))
