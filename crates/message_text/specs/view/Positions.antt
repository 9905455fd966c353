-- Lines by their places in a text.
use Rattle.std.specs.Prelude.{◌≡◌, ℕ, ◌<◌, ◌≤◌, List, ◌∷◌, length, drop, slice_range}
use Rattle.std.specs.Str.Lines.{lines}

-- the first line from `start` on is the octets up to `end`, and the next line begins at `next`
pub record IsLineAt (text : List ℕ) (start end next : ℕ) : Type 0 where
  pub ordered : start ≤ end
  pub forward : start < next
  pub end_within : end ≤ length text
  pub next_within : next ≤ length text
  pub first : lines (drop start text) ≡ slice_range text start end ∷ lines (drop next text)
