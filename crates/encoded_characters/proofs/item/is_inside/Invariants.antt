use Rattle.std.proofs.Common.{◌≡◌, ◌||◌, length}
use Rattle.encoded_characters.specs.Scan.{inside_of}
use Rattle.encoded_characters.proofs.Items.{are_each, has_items}
use Rattle.encoded_characters.proofs.item.is_inside.Given as goal

-- There were items so far, or the rest has some, exactly where there are some at all. The rest
-- decides whether each is legal.
abbrev pub invariant-loop-item : goal.invariant-loop-item
invariant-loop-item l = record {
  any : (l.any || has_items (inside_of l.left)) ≡ has_items (inside_of l.inside);
  each : are_each l.hex (inside_of l.left) ≡ are_each l.hex (inside_of l.inside);
}

abbrev pub decreases-loop-item : goal.decreases-loop-item
decreases-loop-item l = length l.left
