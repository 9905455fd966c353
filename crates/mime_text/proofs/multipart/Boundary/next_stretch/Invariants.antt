use Rattle.std.proofs.Common.{◌≡◌, ◌-◌, ◌≤◌, ◌++◌, List, ℕ, length, take}
use Rattle.mime_text.specs.view.Cuts.{Follows, IsBoundary}
use Rattle.mime_text.proofs.multipart.Boundary.next_stretch.Given as goal

-- the rest follows a front of the text in which no line is a delimiter or a closing one
abbrev pub invariant-loop-line : goal.invariant-loop-line
invariant-loop-line l = record {
  within : length l.rest ≤ length l.text;
  split : take (length l.text - length l.rest) l.text ++ l.rest ≡ l.text;
  follows : (boundary : List ℕ) → IsBoundary boundary l.self.delimiter.items l.self.closing.items → Follows boundary (take (length l.text - length l.rest) l.text) l.text l.rest;
}

abbrev pub decreases-loop-line : goal.decreases-loop-line
decreases-loop-line l = length l.rest
