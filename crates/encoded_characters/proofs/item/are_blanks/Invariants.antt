use Rattle.std.proofs.Common.{◌≡◌, length}
use Rattle.encoded_characters.specs.Sequence.{are_blanks}
use Rattle.encoded_characters.proofs.item.are_blanks.Given as goal

-- the rest decides whether all octets are blanks
abbrev pub invariant-loop-rest : goal.invariant-loop-rest
invariant-loop-rest l = are_blanks l.left ≡ are_blanks l.octets

abbrev pub decreases-loop-rest : goal.decreases-loop-rest
decreases-loop-rest l = length l.left
