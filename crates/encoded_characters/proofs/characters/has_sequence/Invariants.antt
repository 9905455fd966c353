use Rattle.std.proofs.Common.{◌≡◌, length}
use Rattle.encoded_characters.specs.Scan.{has_sequence}
use Rattle.encoded_characters.proofs.characters.has_sequence.Given as goal

-- the text has a sequence exactly where the rest has one
abbrev pub invariant-loop-left : goal.invariant-loop-left
invariant-loop-left l = has_sequence l.left ≡ has_sequence l.text

abbrev pub decreases-loop-left : goal.decreases-loop-left
decreases-loop-left l = length l.left
