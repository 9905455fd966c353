use Rattle.std.proofs.Common.{◌≡◌, ◌≤◌, length}
use Rattle.flag_lists.specs.Flags.{filled_pieces}
use Rattle.flag_lists.proofs.sought_flags.next_key.Given as goal

-- the pieces of the key that have octets are those of the rest, which is no longer than the key
abbrev pub invariant-pieces : goal.invariant-pieces
invariant-pieces l = (filled_pieces l.key ≡ filled_pieces l.rest) × (length l.rest ≤ length l.key)

abbrev pub decreases-pieces : goal.decreases-pieces
decreases-pieces l = length l.rest
