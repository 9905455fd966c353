use Rattle.std.proofs.Common.{◌≡◌, ◌≤◌, length}
use Rattle.encoded_characters.specs.Scan.{characters_replaced}
use Rattle.encoded_characters.specs.view.Sequence.{grown}
use Rattle.encoded_characters.proofs.characters.all_replaced.Given as goal

-- the octets so far, and the rest with its sequences replaced, are the text
-- with its sequences replaced
abbrev pub invariant-loop-left : goal.invariant-loop-left
invariant-loop-left l = record {
  shorter : length l.left ≤ length l.text;
  replaced : grown l.octets.items (characters_replaced l.left) ≡ characters_replaced l.text;
}

abbrev pub decreases-loop-left : goal.decreases-loop-left
decreases-loop-left l = length l.left
