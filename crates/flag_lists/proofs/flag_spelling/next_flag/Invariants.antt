use Rattle.std.proofs.Common.{◌≡◌, ◌≤◌, length}
use Rattle.flag_lists.specs.Flags.{flags_in}
use Rattle.flag_lists.proofs.flag_spelling.next_flag.Given as goal

-- the flags of the text are those of the rest, which is no longer than the text
abbrev pub invariant-pieces : goal.invariant-pieces
invariant-pieces l = (flags_in l.text ≡ flags_in l.rest) × (length l.rest ≤ length l.text)

abbrev pub decreases-pieces : goal.decreases-pieces
decreases-pieces l = length l.rest
