use Rattle.std.proofs.Common.{◌≡◌, ◌++◌, ℕ, List, length}
use Rattle.flag_lists.specs.Flags.{filled_pieces, flag_keys}
use Rattle.sieve_conditions.specs.view.FlagTests.{best_of}
use Rattle.sieve_conditions.proofs.flag_values.better_by_pieces.Given as goal

-- the best with the pieces that are left is the best with all
abbrev pub invariant-loop-piece : goal.invariant-loop-piece
invariant-loop-piece l =
    (rest : List (List ℕ)) → best_of l.matcher.comparison l.flags l.best (filled_pieces l.left ++ rest) ≡ best_of l.matcher.comparison l.flags l.fn.so_far (flag_keys l.key ++ rest)

abbrev pub decreases-loop-piece : goal.decreases-loop-piece
decreases-loop-piece l = length l.left
