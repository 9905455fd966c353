-- The marks of a value, octet by octet.
use Rattle.std.proofs.Common.{◌≡◌, ℕ, ◌+◌, ◌<◌, ◌≤◌, List, [], ◌++◌, length, drop, get_or, sym, ap, ◌∙◌, append_assoc}
use Rattle.std.proofs.lemmas.List.{drop_all, drop_more}
use Rattle.mime_text.specs.Marks.{marks_at, marks_from}
use Rattle.mime_text.specs.declared.marks.ValueMark.{ValueMark}
use Rattle.structured_text.specs.Structure.{after_octet, strings_too}
use Rattle.structured_text.specs.declared.state.LexerState.{LexerState}

module _ (spot : LexerState) (text : List ℕ) (i : ℕ) where
  pub marks_step : i < length text → marks_from spot (drop i text) ≡ marks_at spot (get_or text i 0) ++ marks_from (after_octet strings_too spot (get_or text i 0)) (drop (i + 1) text)
  unfolding marks_from
  marks_step within = ap (marks_from spot) (drop_more text i 0 within)

  pub marks_end : length text ≤ i → marks_from spot (drop i text) ≡ []
  unfolding marks_from
  marks_end past = ap (marks_from spot) (drop_all i text past)

-- the marks so far take those of one octet more
pub marks_more : (so_far marks : List ValueMark) (spot next : LexerState) (text : List ℕ) (i : ℕ) → i < length text → marks ≡ so_far ++ marks_at spot (get_or text i 0) → next ≡ after_octet strings_too spot (get_or text i 0)
    → marks ++ marks_from next (drop (i + 1) text) ≡ so_far ++ marks_from spot (drop i text)
marks_more so_far marks spot next text i within is after =
    ap (λ (front : List ValueMark). front ++ marks_from next (drop (i + 1) text)) is
    ∙ append_assoc so_far (marks_at spot (get_or text i 0)) (marks_from next (drop (i + 1) text))
    ∙ ap (λ (s : LexerState). so_far ++ (marks_at spot (get_or text i 0) ++ marks_from s (drop (i + 1) text))) after
    ∙ ap (λ (rest : List ValueMark). so_far ++ rest) (sym (marks_step spot text i within))
