-- The spelling that is found at the front of a text, against all spellings and the white space.
use Rattle.std.proofs.Common.{◌≡◌, ℕ, zero, suc, ◌<◌, ◌≤◌, ◌==◌, ◌||◌, ◌&&◌, true, false, if◌then◌else◌, List, [], ◌∷◌, length, take, Option, Some, None, refl, sym, ap, ◌∙◌, subst, arith}
use Rattle.std.proofs.lemmas.Option.{same_Some}
use Rattle.std.specs.List.{list_all}
use Rattle.std.specs.Option.{option_map}
use Rattle.std.proofs.lemmas.Bool.{eqb-true}
use Rattle.std.proofs.lemmas.Bool.Decides.{nat_tests}
use Rattle.octets.specs.Octet.{begins_name, is_digit, is_name_octet, is_white, octet_of}
use Rattle.sieve_syntax.specs.Line.{line_length, lines_of}
use Rattle.sieve_syntax.specs.Scan.{name_length, number_length, quoted_length, multi_line_length, name_at, tag_at, quoted_token, mark_at, longest_at}
use Rattle.sieve_syntax.specs.Spelling.{is_identifier, is_tag, is_number, ends_number, is_quoted, ends_quoted, is_multi_line, is_one, spells}
use Rattle.sieve_syntax.specs.White.{comment_length, bracket_comment, white_at}
use Rattle.sieve_syntax.specs.declared.token.TokenKind.{TokenKind}
use Rattle.sieve_syntax.specs.declared.token.TokenKind.TheVariants.{Identifier, Tag, Number, Quoted, MultiLine, Semicolon, OpenBrace, CloseBrace, OpenParenthesis, CloseParenthesis, OpenBracket, CloseBracket, Comma, Bad}
use Rattle.sieve_syntax.proofs.Cases.{by_cases, by_option, and_left, and_right, both_true}
use Rattle.sieve_syntax.proofs.Lines.{line_bound, IsTextColon, multi_line_found, multi_line_only, multi_line_colon}
use Rattle.sieve_syntax.proofs.Scanning.{IsEnd, name_bound, name_length-all, name_length-most, number_bound, number_length-ends, number_length-most, one_more, quoted_found, quoted_only}

-- WHITE SPACE

pub comment_bounds : (cs : List ℕ) (n : ℕ) → comment_length cs ≡ Some n → (0 < n) × (n ≤ length cs)
unfolding comment_length
comment_bounds [] n = λ e. cc
comment_bounds (c ∷ []) n =
    by_cases ((c == octet_of "*") && false) (λ b. (if b then Some 2 else None) ≡ Some n → (0 < n) × (n ≤ 1))
    (λ q e. absurd (let f = and_right (c == octet_of "*") false q in cc)) (λ q e. cc)
comment_bounds (c ∷ d ∷ ds) n =
    by_cases ((c == octet_of "*") && (d == octet_of "/")) (λ b. (if b then Some 2 else option_map suc (comment_length (d ∷ ds))) ≡ Some n → (0 < n) × (n ≤ suc (suc (length ds))))
    (λ q e. let same : 2 ≡ n = cc in (omega arith, omega arith))
    (λ q e.
    let m = one_more (comment_length (d ∷ ds)) n e in
    let b = comment_bounds (d ∷ ds) m.0 m.1 in
    let low = b.0 in let high = b.1 in let sum = m.2 in
    (omega arith, omega arith))

pub bracket_bounds : (cs : List ℕ) (n : ℕ) → bracket_comment cs ≡ Some n → (0 < n) × (n ≤ length cs)
unfolding bracket_comment
bracket_bounds [] n = λ e. cc
bracket_bounds (c ∷ cs) n =
    by_cases (c == octet_of "*") (λ b. (if b then option_map suc (comment_length cs) else None) ≡ Some n → (0 < n) × (n ≤ suc (length cs)))
    (λ q e.
    let m = one_more (comment_length cs) n e in
    let b = comment_bounds cs m.0 m.1 in
    let high = b.1 in let sum = m.2 in
    (omega arith, omega arith))
    (λ q e. cc)

-- a piece of white space is not empty, and lies in the text
pub white_at_bounds : (rest : List ℕ) (n : ℕ) → white_at rest ≡ Some n → (0 < n) × (n ≤ length rest)
unfolding white_at
white_at_bounds [] n = λ e. cc
white_at_bounds (c ∷ cs) n =
    let line = line_bound cs in
    by_cases (is_white c) (λ b. (if b then Some 1 else (if c == octet_of "#" then Some (suc (line_length cs)) else (if c == octet_of "/" then option_map suc (bracket_comment cs) else None))) ≡ Some n → (0 < n) × (n ≤ suc (length cs)))
    (λ q e. let f : 1 ≡ n = cc in (omega arith, omega arith))
    (λ q. by_cases (c == octet_of "#") (λ b. (if b then Some (suc (line_length cs)) else (if c == octet_of "/" then option_map suc (bracket_comment cs) else None)) ≡ Some n → (0 < n) × (n ≤ suc (length cs)))
    (λ r e. let f : suc (line_length cs) ≡ n = cc in (omega arith, omega arith))
    (λ r. by_cases (c == octet_of "/") (λ b. (if b then option_map suc (bracket_comment cs) else None) ≡ Some n → (0 < n) × (n ≤ suc (length cs)))
    (λ s e.
    let m = one_more (bracket_comment cs) n e in
    let b = bracket_bounds cs m.0 m.1 in
    let high = b.1 in let sum = m.2 in
    (omega arith, omega arith))
    (λ s e. cc)))

-- where white space begins, no spelling does
pub white_at_alone : (rest : List ℕ) (n : ℕ) → white_at rest ≡ Some n → longest_at rest ≡ None
unfolding white_at longest_at mark_at
white_at_alone [] n e = refl
white_at_alone (c ∷ cs) n e = grind (arith, nat_tests)

-- THE SPELLING THAT IS FOUND

-- the kind and the length that are found are those of a spelling in the text
pub record IsFound (rest : List ℕ) (found : TokenKind × ℕ) : Type 0 where
  pub some : 0 < found.1
  pub inside : found.1 ≤ length rest
  pub spelled : spells found.0 (take found.1 rest) ≡ true

name_found : (c : ℕ) (cs : List ℕ) (found : TokenKind × ℕ) → begins_name c ≡ true → name_at (c ∷ cs) ≡ Some found → IsFound (c ∷ cs) found
unfolding name_at spells is_identifier
name_found c cs found q =
    by_option (multi_line_length (lines_of (c ∷ cs)))
    (λ o. elim o as (λ z. Option (TokenKind × ℕ)) [ Some n ↦ Some (MultiLine, n) | None ↦ Some (Identifier, suc (name_length cs)) ] ≡ Some found → IsFound (c ∷ cs) found)
    (λ n p e.
    let f : IsEnd is_multi_line (c ∷ cs) n = multi_line_found (c ∷ cs) n p in
    subst (IsFound (c ∷ cs)) (same_Some (MultiLine, n) found e) record { some = f.some; inside = f.inside; spelled = f.ends_it })
    (λ p e. subst (IsFound (c ∷ cs)) (same_Some (Identifier, suc (name_length cs)) found e) record {
      some = omega arith;
      inside = omega (arith, name_bound cs);
      spelled = both_true (begins_name c) _ q (name_length-all cs);
    })

tag_found : (c : ℕ) (cs : List ℕ) (found : TokenKind × ℕ) → (c == octet_of ":") ≡ true → tag_at cs ≡ Some found → IsFound (c ∷ cs) found
unfolding tag_at spells is_tag is_identifier
tag_found c [] found q = λ e. cc
tag_found c (d ∷ ds) found q =
    by_cases (begins_name d) (λ b. (if b then Some (Tag, suc (suc (name_length ds))) else None) ≡ Some found → IsFound (c ∷ d ∷ ds) found)
    (λ p e. subst (IsFound (c ∷ d ∷ ds)) (same_Some (Tag, suc (suc (name_length ds))) found e) record {
      some = omega arith;
      inside = omega (arith, name_bound ds);
      spelled = both_true (c == octet_of ":") _ q (both_true (begins_name d) _ p (name_length-all ds));
    })
    (λ p e. cc)

quoted_is_found : (c : ℕ) (cs : List ℕ) (found : TokenKind × ℕ) → (c == octet_of "\"") ≡ true → option_map quoted_token (quoted_length cs) ≡ Some found → IsFound (c ∷ cs) found
unfolding spells is_quoted
quoted_is_found c cs found q =
    by_option (quoted_length cs) (λ o. option_map quoted_token o ≡ Some found → IsFound (c ∷ cs) found)
    (λ n p e.
    let f : IsEnd ends_quoted cs n = quoted_found cs n p in
    let inside = f.inside in
    subst (IsFound (c ∷ cs)) (same_Some (Quoted, suc n) found e) record {
      some = omega arith;
      inside = omega arith;
      spelled = both_true (c == octet_of "\"") _ q f.ends_it;
    })
    (λ p e. cc)

one_found : (c : ℕ) (cs : List ℕ) (found : TokenKind × ℕ) (kind : TokenKind) (others : Option (TokenKind × ℕ)) (octet : ℕ)
    → (((c == octet) ≡ true) → spells kind (c ∷ []) ≡ true) → (others ≡ Some found → IsFound (c ∷ cs) found)
    → (if c == octet then Some (kind, 1) else others) ≡ Some found → IsFound (c ∷ cs) found
one_found c cs found kind others octet spelled below =
    by_cases (c == octet) (λ b. (if b then Some (kind, 1) else others) ≡ Some found → IsFound (c ∷ cs) found)
    (λ q e. subst (IsFound (c ∷ cs)) (same_Some (kind, 1) found e) record { some = omega arith; inside = omega arith; spelled = spelled q })
    (λ q e. below e)

mark_found : (c : ℕ) (cs : List ℕ) (found : TokenKind × ℕ) → mark_at c ≡ Some found → IsFound (c ∷ cs) found
unfolding mark_at spells is_one
mark_found c cs found =
    one_found c cs found Semicolon _ (octet_of ";") (λ q. q)
    (one_found c cs found Comma _ (octet_of ",") (λ q. q)
    (one_found c cs found OpenBrace _ (octet_of "{") (λ q. q)
    (one_found c cs found CloseBrace _ (octet_of "}") (λ q. q)
    (one_found c cs found OpenParenthesis _ (octet_of "(") (λ q. q)
    (one_found c cs found CloseParenthesis _ (octet_of ")") (λ q. q)
    (one_found c cs found OpenBracket _ (octet_of "[") (λ q. q)
    (one_found c cs found CloseBracket _ (octet_of "]") (λ q. q) (λ e. cc))))))))

pub longest_at-found : (rest : List ℕ) (found : TokenKind × ℕ) → longest_at rest ≡ Some found → IsFound rest found
unfolding longest_at spells is_number
longest_at-found [] found = λ e. cc
longest_at-found (c ∷ cs) found =
    by_cases (begins_name c) (λ b. (if b then name_at (c ∷ cs) else (if is_digit c then Some (Number, suc (number_length cs)) else (if c == octet_of ":" then tag_at cs else (if c == octet_of "\"" then option_map quoted_token (quoted_length cs) else mark_at c)))) ≡ Some found → IsFound (c ∷ cs) found)
    (λ q e. name_found c cs found q e)
    (λ q. by_cases (is_digit c) (λ b. (if b then Some (Number, suc (number_length cs)) else (if c == octet_of ":" then tag_at cs else (if c == octet_of "\"" then option_map quoted_token (quoted_length cs) else mark_at c))) ≡ Some found → IsFound (c ∷ cs) found)
    (λ r e. subst (IsFound (c ∷ cs)) (same_Some (Number, suc (number_length cs)) found e) record {
      some = omega arith;
      inside = omega (arith, number_bound cs);
      spelled = both_true (is_digit c) _ r (number_length-ends cs);
    })
    (λ r. by_cases (c == octet_of ":") (λ b. (if b then tag_at cs else (if c == octet_of "\"" then option_map quoted_token (quoted_length cs) else mark_at c)) ≡ Some found → IsFound (c ∷ cs) found)
    (λ s e. tag_found c cs found s e)
    (λ s. by_cases (c == octet_of "\"") (λ b. (if b then option_map quoted_token (quoted_length cs) else mark_at c) ≡ Some found → IsFound (c ∷ cs) found)
    (λ t e. quoted_is_found c cs found t e)
    (λ t e. mark_found c cs found e))))

-- NOTHING LONGER

-- A spelling of this kind and length is no longer than the one that is found. Where both are as
-- long, both have one kind.
pub record IsAtMost (rest : List ℕ) (kind : TokenKind) (m : ℕ) : Type 0 where
  pub found : TokenKind × ℕ
  pub is : longest_at rest ≡ Some found
  pub most : m ≤ found.1
  pub only : m ≡ found.1 → kind ≡ found.0

at_name : (c : ℕ) (cs : List ℕ) → begins_name c ≡ true → longest_at (c ∷ cs) ≡ name_at (c ∷ cs)
unfolding longest_at
at_name c cs q = ap (λ b. if b then name_at (c ∷ cs) else (if is_digit c then Some (Number, suc (number_length cs)) else (if c == octet_of ":" then tag_at cs else (if c == octet_of "\"" then option_map quoted_token (quoted_length cs) else mark_at c)))) q

digit_only : (c : ℕ) → is_digit c ≡ true → begins_name c ≡ false
digit_only c q = grind (arith, nat_tests)

at_digit : (c : ℕ) (cs : List ℕ) → is_digit c ≡ true → longest_at (c ∷ cs) ≡ Some (Number, suc (number_length cs))
unfolding longest_at
at_digit c cs q =
    ap (λ b. if b then name_at (c ∷ cs) else (if is_digit c then Some (Number, suc (number_length cs)) else (if c == octet_of ":" then tag_at cs else (if c == octet_of "\"" then option_map quoted_token (quoted_length cs) else mark_at c)))) (digit_only c q)
    ∙ ap (λ b. if b then Some (Number, suc (number_length cs)) else (if c == octet_of ":" then tag_at cs else (if c == octet_of "\"" then option_map quoted_token (quoted_length cs) else mark_at c))) q

at_colon : (cs : List ℕ) → longest_at (octet_of ":" ∷ cs) ≡ tag_at cs
unfolding longest_at
at_colon cs = refl

at_quote : (cs : List ℕ) → longest_at (octet_of "\"" ∷ cs) ≡ option_map quoted_token (quoted_length cs)
unfolding longest_at
at_quote cs = refl

-- the spelling that is found is no longer than itself
exactly : (rest : List ℕ) (kind : TokenKind) (m : ℕ) → longest_at rest ≡ Some (kind, m) → IsAtMost rest kind m
exactly rest kind m e = record { found = (kind, m); is = e; most = omega arith; only = λ s. refl }

name_letter : (c : ℕ) → begins_name c ≡ true → is_name_octet c ≡ true
name_letter c q = ap (λ b. b || is_digit c) q

name_more : (c : ℕ) (cs : List ℕ) → begins_name c ≡ true → name_length (c ∷ cs) ≡ suc (name_length cs)
unfolding name_length
name_more c cs q = ap (λ b. if b then suc (name_length cs) else 0) (name_letter c q)

name_colon : (rest : List ℕ) → name_length (octet_of ":" ∷ rest) ≡ 0
unfolding name_length
name_colon rest = refl

-- the name before the colon has three octets after its first
text_name : (c : ℕ) (cs : List ℕ) → IsTextColon (c ∷ cs) → name_length cs ≡ 3
text_name c cs h =
    let tail : cs ≡ h.e ∷ h.x ∷ h.u ∷ octet_of ":" ∷ h.rest = (let is = h.is in cc) in
    ap name_length tail
    ∙ name_more h.e _ h.letter_e
    ∙ ap suc (name_more h.x _ h.letter_x ∙ ap suc (name_more h.u _ h.letter_u ∙ ap suc (name_colon h.rest)))

text_letter : (c : ℕ) (cs : List ℕ) → IsTextColon (c ∷ cs) → begins_name c ≡ true
text_letter c cs h =
    let head : c ≡ h.t = (let is = h.is in cc) in
    ap begins_name head ∙ h.letter_t

identifier-most : (c : ℕ) (cs : List ℕ) (m : ℕ) → m ≤ length cs → begins_name c ≡ true → list_all is_name_octet (take m cs) ≡ true → IsAtMost (c ∷ cs) Identifier (suc m)
unfolding name_at
identifier-most c cs m h q all =
    let more : m ≤ name_length cs = name_length-most cs m h all in
    by_option (multi_line_length (lines_of (c ∷ cs)))
    (λ o. longest_at (c ∷ cs) ≡ elim o as (λ z. Option (TokenKind × ℕ)) [ Some n ↦ Some (MultiLine, n) | None ↦ Some (Identifier, suc (name_length cs)) ] → IsAtMost (c ∷ cs) Identifier (suc m))
    (λ n p e.
    let colon = multi_line_colon (c ∷ cs) n p in
    let long = colon.1 in
    let name = text_name c cs colon.0 in
    record { found = (MultiLine, n); is = e; most = omega arith; only = λ s. absurd (omega arith) })
    (λ p e. record { found = (Identifier, suc (name_length cs)); is = e; most = omega arith; only = λ s. refl })
    (at_name c cs q)

multi_line-most : (rest : List ℕ) (m : ℕ) → multi_line_length (lines_of rest) ≡ Some m → IsAtMost rest MultiLine m
unfolding name_at
multi_line-most [] m e = absurd (let colon = multi_line_colon [] m e in let is = colon.0.is in cc)
multi_line-most (c ∷ cs) m e =
    let colon = multi_line_colon (c ∷ cs) m e in
    exactly (c ∷ cs) MultiLine m (at_name c cs (text_letter c cs colon.0)
    ∙ ap (λ o. elim o as (λ z. Option (TokenKind × ℕ)) [ Some n ↦ Some (MultiLine, n) | None ↦ Some (Identifier, suc (name_length cs)) ]) e)

tag-most : (d : ℕ) (ds : List ℕ) (m : ℕ) → m ≤ length ds → begins_name d ≡ true → list_all is_name_octet (take m ds) ≡ true → IsAtMost (octet_of ":" ∷ d ∷ ds) Tag (suc (suc m))
unfolding tag_at
tag-most d ds m h q all =
    let more : m ≤ name_length ds = name_length-most ds m h all in
    record {
      found = (Tag, suc (suc (name_length ds)));
      is = at_colon (d ∷ ds) ∙ ap (λ b. if b then Some (Tag, suc (suc (name_length ds))) else None) q;
      most = omega arith;
      only = λ s. refl;
    }

number-most : (c : ℕ) (cs : List ℕ) (m : ℕ) → m ≤ length cs → is_digit c ≡ true → ends_number (take m cs) ≡ true → IsAtMost (c ∷ cs) Number (suc m)
number-most c cs m h q ends =
    let more : m ≤ number_length cs = number_length-most cs m h ends in
    record { found = (Number, suc (number_length cs)); is = at_digit c cs q; most = omega arith; only = λ s. refl }

quoted-most : (cs : List ℕ) (m : ℕ) → m ≤ length cs → ends_quoted (take m cs) ≡ true → IsAtMost (octet_of "\"" ∷ cs) Quoted (suc m)
quoted-most cs m h ends = exactly (octet_of "\"" ∷ cs) Quoted (suc m) (at_quote cs ∙ ap (option_map quoted_token) (quoted_only cs m h ends))

is_one-alone : (octet : ℕ) (symbol : List ℕ) → is_one octet symbol ≡ true → symbol ≡ octet ∷ []
unfolding is_one
is_one-alone octet [] e = cc
is_one-alone octet (c ∷ []) e = ap (λ x. x ∷ []) (eqb-true c octet e)
is_one-alone octet (c ∷ d ∷ ds) e = cc

take-one : (rest : List ℕ) (m c : ℕ) → m ≤ length rest → take m rest ≡ c ∷ [] → (cs : List ℕ) × (rest ≡ c ∷ cs) × (m ≡ 1)
take-one [] zero c h e = cc
take-one [] (suc n) c h e = cc
take-one (d ∷ ds) zero c h e = cc
take-one (d ∷ ds) (suc zero) c h e = (ds, cc, refl)
take-one (d ∷ []) (suc (suc n)) c h e = absurd (omega arith)
take-one (d ∷ f ∷ ds) (suc (suc n)) c h e = cc

one-most : (rest : List ℕ) (kind : TokenKind) (m octet : ℕ) → m ≤ length rest → is_one octet (take m rest) ≡ true → ((cs : List ℕ) → longest_at (octet ∷ cs) ≡ Some (kind, 1)) → IsAtMost rest kind m
one-most rest kind m octet h e found =
    let t = take-one rest m octet h (is_one-alone octet _ e) in
    subst (λ r. IsAtMost r kind m) (sym t.1) (subst (IsAtMost (octet ∷ t.0) kind) (sym t.2) (exactly (octet ∷ t.0) kind 1 (found t.0)))

tag-from : (rest : List ℕ) (m : ℕ) → m ≤ length rest → is_tag (take m rest) ≡ true → IsAtMost rest Tag m
unfolding is_tag is_identifier
tag-from [] zero h e = cc
tag-from [] (suc m) h e = cc
tag-from (c ∷ cs) zero h e = cc
tag-from (c ∷ []) (suc zero) h e = absurd (let f = and_right (c == octet_of ":") false e in cc)
tag-from (c ∷ d ∷ ds) (suc zero) h e = absurd (let f = and_right (c == octet_of ":") false e in cc)
tag-from (c ∷ []) (suc (suc m)) h e = absurd (omega arith)
tag-from (c ∷ d ∷ ds) (suc (suc m)) h e =
    let name = and_right (c == octet_of ":") _ e in
    subst (λ x. IsAtMost (x ∷ d ∷ ds) Tag (suc (suc m))) (sym (eqb-true c (octet_of ":") (and_left (c == octet_of ":") _ e)))
    (tag-most d ds m (omega arith) (and_left (begins_name d) _ name) (and_right (begins_name d) _ name))

pub longest_at-most : (rest : List ℕ) (kind : TokenKind) (m : ℕ) → m ≤ length rest → spells kind (take m rest) ≡ true → IsAtMost rest kind m
unfolding spells is_identifier is_number is_quoted longest_at mark_at
longest_at-most [] Identifier zero h e = cc
longest_at-most [] Identifier (suc m) h e = cc
longest_at-most (c ∷ cs) Identifier zero h e = cc
longest_at-most (c ∷ cs) Identifier (suc m) h e = identifier-most c cs m (omega arith) (and_left (begins_name c) _ e) (and_right (begins_name c) _ e)
longest_at-most rest Tag m h e = tag-from rest m h e
longest_at-most [] Number zero h e = cc
longest_at-most [] Number (suc m) h e = cc
longest_at-most (c ∷ cs) Number zero h e = cc
longest_at-most (c ∷ cs) Number (suc m) h e = number-most c cs m (omega arith) (and_left (is_digit c) _ e) (and_right (is_digit c) _ e)
longest_at-most [] Quoted zero h e = cc
longest_at-most [] Quoted (suc m) h e = cc
longest_at-most (c ∷ cs) Quoted zero h e = cc
longest_at-most (c ∷ cs) Quoted (suc m) h e =
    subst (λ x. IsAtMost (x ∷ cs) Quoted (suc m)) (sym (eqb-true c (octet_of "\"") (and_left (c == octet_of "\"") _ e)))
    (quoted-most cs m (omega arith) (and_right (c == octet_of "\"") _ e))
longest_at-most rest MultiLine m h e = multi_line-most rest m (multi_line_only rest m h e)
longest_at-most rest Semicolon m h e = one-most rest Semicolon m (octet_of ";") h e (λ cs. refl)
longest_at-most rest OpenBrace m h e = one-most rest OpenBrace m (octet_of "{") h e (λ cs. refl)
longest_at-most rest CloseBrace m h e = one-most rest CloseBrace m (octet_of "}") h e (λ cs. refl)
longest_at-most rest OpenParenthesis m h e = one-most rest OpenParenthesis m (octet_of "(") h e (λ cs. refl)
longest_at-most rest CloseParenthesis m h e = one-most rest CloseParenthesis m (octet_of ")") h e (λ cs. refl)
longest_at-most rest OpenBracket m h e = one-most rest OpenBracket m (octet_of "[") h e (λ cs. refl)
longest_at-most rest CloseBracket m h e = one-most rest CloseBracket m (octet_of "]") h e (λ cs. refl)
longest_at-most rest Comma m h e = one-most rest Comma m (octet_of ",") h e (λ cs. refl)
longest_at-most rest Bad m h e = cc

pub found_bounds : (rest : List ℕ) (found : TokenKind × ℕ) → longest_at rest ≡ Some found → (0 < found.1) × (found.1 ≤ length rest)
found_bounds rest found e = ((longest_at-found rest found e).some, (longest_at-found rest found e).inside)
