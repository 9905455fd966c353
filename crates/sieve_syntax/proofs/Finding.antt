-- The next token of a text, and the tokens up to it.
use Rattle.std.proofs.Common.{◌≡◌, ℕ, ◌+◌, ◌-◌, ◌<◌, ◌≤◌, ◌++◌, List, [], ◌∷◌, length, drop, Some, None, sym, ap, ◌∙◌, subst, arith, append-nil}
use Rattle.sieve_syntax.specs.view.Cursor.{IsCursor, GoesTo, IsNext}
use Rattle.sieve_syntax.specs.Scan.{longest_at, token_at}
use Rattle.sieve_syntax.specs.Token.{line_at, SpellsFrom, Spells}
use Rattle.sieve_syntax.specs.White.{white_at}
use Rattle.sieve_syntax.specs.declared.cursor.Cursor.{Cursor}
use Rattle.sieve_syntax.specs.declared.token.Token.{Token}
use Rattle.sieve_syntax.specs.declared.token.TokenKind.{TokenKind}
use Rattle.sieve_syntax.specs.declared.token.TokenKind.TheVariants.{Bad}
use Rattle.sieve_syntax.proofs.Longest.{IsFound, longest_at-found}
use Rattle.sieve_syntax.proofs.Spelling.{step_white, step_token, step_bad, step_end, unique_from}

-- where white space begins at the place, the tokens go on from the place after it
pub goes_white : (text : List ℕ) (from place n : ℕ) (rest : List ℕ) → rest ≡ drop place text → white_at rest ≡ Some n → GoesTo text from place → GoesTo text from (place + n)
goes_white text from place n rest e w so = record { goes = λ more h. so.goes more (step_white text place n more (ap white_at (sym e) ∙ w) h) }

pub end_next : (text : List ℕ) (from place : ℕ) → GoesTo text from place → place ≡ length text → SpellsFrom text from []
end_next text from place so e = so.goes [] (step_end text place e)

-- the longest spelling at the place is the next token
pub good_next : (text : List ℕ) (from : ℕ) (start after : Cursor) (token : Token) (kind : TokenKind) (n : ℕ) (rest : List ℕ) → rest ≡ drop start.place text → longest_at rest ≡ Some (kind, n)
    → IsCursor text start → IsCursor text after → from ≤ start.place → GoesTo text from start.place → token ≡ token_at text start.place kind (start.place + n) → after.place ≡ start.place + n
    → IsNext text from token after
unfolding token_at
good_next text from start after token kind n rest e l is_start is_after low so made place =
    let found = ap longest_at (sym e) ∙ l in
    let f : IsFound (drop start.place text) (kind, n) = longest_at-found (drop start.place text) (kind, n) found in
    let some = f.some in
    let within = is_start.within in
    let inside = is_after.within in
    let start_is : token.start ≡ start.place = ap (λ t. t.start) made in
    let end_is : token.end ≡ start.place + n = ap (λ t. t.end) made in
    record {
      is = is_after;
      inside = record { some = omega arith; inside = omega arith };
      line = ap (λ t. t.line) made ∙ ap (line_at text) (sym start_is);
      place = omega arith;
      forward = omega arith;
      goes = λ more h. so.goes (token ∷ more)
          (subst (λ t. SpellsFrom text start.place (t ∷ more)) (sym made)
          (step_token text start.place (kind, n) more within found (subst (λ p. SpellsFrom text p more) place h)));
    }

-- where neither white space nor a spelling begins, the rest of the text is the next token
pub bad_next : (text : List ℕ) (from : ℕ) (start after : Cursor) (token : Token) (rest : List ℕ) → rest ≡ drop start.place text → longest_at rest ≡ None → white_at (drop start.place text) ≡ None
    → start.place < length text → IsCursor text after → from ≤ start.place → GoesTo text from start.place → token ≡ token_at text start.place Bad (start.place + (length text - start.place)) → after.place ≡ start.place + (length text - start.place)
    → IsNext text from token after
unfolding token_at
bad_next text from start after token rest e l w less is_after low so made place =
    let all : start.place + (length text - start.place) ≡ length text = omega arith in
    let start_is : token.start ≡ start.place = ap (λ t. t.start) made in
    let end_is : token.end ≡ start.place + (length text - start.place) = ap (λ t. t.end) made in
    let whole : token ≡ token_at text start.place Bad (length text) = made ∙ ap (token_at text start.place Bad) all in
    record {
      is = is_after;
      inside = record { some = omega arith; inside = omega arith };
      line = ap (λ t. t.line) made ∙ ap (line_at text) (sym start_is);
      place = omega arith;
      forward = omega arith;
      goes = λ more h.
          let none : more ≡ [] = unique_from text after.place more [] h (step_end text after.place (omega arith)) in
          so.goes (token ∷ more)
          (subst (λ t. SpellsFrom text start.place (t ∷ more)) (sym whole)
          (subst (λ ts. SpellsFrom text start.place (token_at text start.place Bad (length text) ∷ ts)) (sym none)
          (step_bad text start.place less w (ap longest_at (sym e) ∙ l))));
    }

-- THE TOKENS SO FAR

-- any tokens that spell the rest spell the text with those found so far
abbrev pub GoesOn : List ℕ → List Token → ℕ → Type 0
GoesOn text found place = (more : List Token) → SpellsFrom text place more → SpellsFrom text 0 (found ++ more)

pub ends_here : (text : List ℕ) (found : List Token) (place : ℕ) → SpellsFrom text place [] → GoesOn text found place → Spells found text
ends_here text found place h so = subst (SpellsFrom text 0) (append-nil found) (so [] h)
