-- The header section of a text, and the values of its fields.
use Rattle.std.proofs.Common.{◌≡◌, ℕ, zero, suc, ◌<◌, ◌≤◌, true, false, cond, List, [], ◌∷◌, ◌++◌, length, map, filter, None, Some, refl, sym, ap, ◌∙◌, arith}
use Rattle.std.specs.List.{concat, slice_get}
use Rattle.message_text.specs.Fields.{Field, IsNextNamed, is_field_named}
use Rattle.mime_text.specs.Entities.{body_of, first_value, header_of, joined_lines, lines_after, lines_before}
use Rattle.mime_text.specs.Lines.{ended_lines, is_line_end}
use Rattle.mime_text.proofs.Stretches.{joined_lines as lines_joined}

-- VALUES

none_yet : true ≡ false → ⊥
none_yet e = cc

module _ (name : List ℕ) where
  -- the first field of a name
  pub value_found : (fields : List Field) (i : ℕ) (value : List ℕ) → IsNextNamed fields name 0 i → slice_get (map (λ (f : Field). f.value) fields) i ≡ Some value
      → Some value ≡ first_value (filter (is_field_named name) fields)
  value_found [] i value next at = absurd (omega (arith, next.within))
  value_found (f ∷ fields) zero value next at =
      let here : is_field_named name f ≡ true = let e : Some (is_field_named name f) ≡ Some true = next.is in cc in
      sym at ∙ ap (λ b. first_value (cond b (f ∷ filter (is_field_named name) fields) (filter (is_field_named name) fields))) (sym here)
  value_found (f ∷ fields) (suc i) value next at =
      let other : is_field_named name f ≡ false = let e : Some (is_field_named name f) ≡ Some false = next.others 0 (omega arith) (omega arith) in cc in
      value_found fields i value (record {
        after = omega arith;
        within = omega (arith, next.within);
        is = next.is;
        others = λ k from below. next.others (suc k) (omega arith) (omega (arith, below));
      }) at
      ∙ ap (λ b. first_value (cond b (f ∷ filter (is_field_named name) fields) (filter (is_field_named name) fields))) (sym other)

  pub none_found : (fields : List Field) → ((k : ℕ) → 0 ≤ k → k < length fields → slice_get (map (is_field_named name) fields) k ≡ Some false) → None ≡ first_value (filter (is_field_named name) fields)
  none_found [] none = refl
  none_found (f ∷ fields) none =
      let other : is_field_named name f ≡ false = let e : Some (is_field_named name f) ≡ Some false = none 0 (omega arith) (omega arith) in cc in
      none_found fields (λ k from below. none (suc k) (omega arith) (omega (arith, below)))
      ∙ ap (λ b. first_value (cond b (f ∷ filter (is_field_named name) fields) (filter (is_field_named name) fields))) (sym other)

-- HEADER AND CONTENT

module _ (line after rest : List ℕ) (first : ended_lines rest ≡ line ∷ ended_lines after) where
  header_here : header_of rest ≡ concat (cond (is_line_end line) [] (line ∷ lines_before (ended_lines after)))
  unfolding lines_before
  header_here = ap (λ (l : List (List ℕ)). concat (lines_before l)) first

  body_here : body_of rest ≡ joined_lines (cond (is_line_end line) (Some (ended_lines after)) (lines_after (ended_lines after)))
  unfolding lines_after
  body_here = ap (λ (l : List (List ℕ)). joined_lines (lines_after l)) first

  pub header_ends : is_line_end line ≡ true → header_of rest ≡ []
  header_ends ends = header_here ∙ ap (λ b. concat (cond b [] (line ∷ lines_before (ended_lines after)))) ends

  pub body_begins : is_line_end line ≡ true → body_of rest ≡ Some after
  body_begins ends = body_here ∙ ap (λ b. joined_lines (cond b (Some (ended_lines after)) (lines_after (ended_lines after)))) ends ∙ ap Some (lines_joined after)

  pub header_goes_on : is_line_end line ≡ false → header_of rest ≡ line ++ header_of after
  header_goes_on inner = header_here ∙ ap (λ b. concat (cond b [] (line ∷ lines_before (ended_lines after)))) inner

  pub body_goes_on : is_line_end line ≡ false → body_of rest ≡ body_of after
  body_goes_on inner = body_here ∙ ap (λ b. joined_lines (cond b (Some (ended_lines after)) (lines_after (ended_lines after)))) inner

pub header_of_nothing : header_of [] ≡ []
unfolding lines_before ended_lines
header_of_nothing = refl

pub body_of_nothing : body_of [] ≡ None
unfolding lines_after ended_lines
body_of_nothing = refl
