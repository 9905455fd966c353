use Rattle.std.proofs.Common.{◌≡◌, ◌+◌, ◌≤◌, length, not, take}
use Rattle.std.specs.List.{suffix_len}
use Rattle.octets.specs.Octet.{octet_of}
use Rattle.message_text.specs.Addresses.{is_bare}
use Rattle.message_text.proofs.pieces.without_group.Given as goal

-- no bare colon stands in the piece from `start` on
abbrev pub invariant-loop-start : goal.invariant-loop-start
invariant-loop-start l =
    (l.start ≤ length l.piece) × (l.start + suffix_len (λ m. not (is_bare (octet_of ":") m)) l.piece
    ≡ length l.piece + suffix_len (λ m. not (is_bare (octet_of ":") m)) (take l.start l.piece))

abbrev pub decreases-loop-start : goal.decreases-loop-start
decreases-loop-start l = l.start
