use Rattle.std.proofs.Common.{◌≡◌, length}
use Rattle.std.specs.List.{list_any}
use Rattle.flag_lists.specs.Flags.{filled_pieces, flag_keys, has_key}
use Rattle.match_text.specs.Order.{are_equal}
use Rattle.sieve_conditions.proofs.flag_values.has_piece.Given as goal

-- one of the pieces that are left is among the flags exactly if one of all is
abbrev pub invariant-loop-piece : goal.invariant-loop-piece
invariant-loop-piece l = list_any (has_key (are_equal l.collation) l.flags) (filled_pieces l.left) ≡ list_any (has_key (are_equal l.collation) l.flags) (flag_keys l.key)

abbrev pub decreases-loop-piece : goal.decreases-loop-piece
decreases-loop-piece l = length l.left
