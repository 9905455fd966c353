use Rattle.std.proofs.Common.{length}
use Rattle.flag_lists.specs.Flags.{flags_in}
use Rattle.flag_lists.proofs.Pieces.{AddedSoFar}
use Rattle.flag_lists.proofs.flags.insert_text.Given as goal

-- the flags of the text before those of the rest have been added to the set
abbrev pub invariant-loop-flag : goal.invariant-loop-flag
invariant-loop-flag l = AddedSoFar (flags_in l.text) (flags_in l.rest) l.initial.flags.keys l.flags.keys

abbrev pub decreases-loop-flag : goal.decreases-loop-flag
decreases-loop-flag l = length l.rest
