use Rattle.std.proofs.Common.{◌≡◌, length}
use Rattle.encoded_characters.specs.Scan.{inside_of}
use Rattle.encoded_characters.specs.view.Sequence.{grown}
use Rattle.encoded_characters.proofs.Values.{octets_of_items}
use Rattle.encoded_characters.proofs.value.push_sequence.Given as goal

-- The octets so far and those of the items left are the octets before and those of all items.
abbrev pub invariant-loop-item : goal.invariant-loop-item
invariant-loop-item l =
    grown l.octets.items (octets_of_items l.hex (inside_of l.left)) ≡ grown l.fn.octets.items (octets_of_items l.hex (inside_of l.sequence.inside.now))

abbrev pub decreases-loop-item : goal.decreases-loop-item
decreases-loop-item l = length l.left
