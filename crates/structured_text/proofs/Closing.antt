-- Whether all is closed, octet by octet.
use Rattle.std.proofs.Common.{◌≡◌, ℕ, ◌+◌, ◌<◌, ◌≤◌, List, [], length, drop, get_or, sym, ap}
use Rattle.std.proofs.lemmas.List.{drop_all, drop_more}
use Rattle.structured_text.specs.Structure.{after_octet, is_closed, is_outside}
use Rattle.structured_text.specs.declared.state.Brackets.{Brackets}
use Rattle.structured_text.specs.declared.state.LexerState.{LexerState}

module _ (brackets : Brackets) (state : LexerState) (text : List ℕ) (i : ℕ) where
  pub closed_step : i < length text → is_closed brackets state (drop i text) ≡ is_closed brackets (after_octet brackets state (get_or text i 0)) (drop (i + 1) text)
  unfolding is_closed
  closed_step within = ap (is_closed brackets state) (drop_more text i 0 within)

  pub closed_end : length text ≤ i → is_closed brackets state (drop i text) ≡ is_outside state
  unfolding is_closed
  closed_end past = ap (is_closed brackets state) (drop_all i text past)
