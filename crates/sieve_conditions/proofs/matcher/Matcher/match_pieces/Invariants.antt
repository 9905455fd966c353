use Rattle.std.proofs.Common.{◌≡◌, length}
use Rattle.flag_lists.specs.Flags.{filled_pieces, flag_keys}
use Rattle.sieve_conditions.specs.Matching.{first_match, pairs_with}
use Rattle.sieve_conditions.proofs.matcher.Matcher.match_pieces.Given as goal

-- the pieces that are left give the match values of all
abbrev pub invariant-loop-piece : goal.invariant-loop-piece
invariant-loop-piece l = first_match l.self.comparison (pairs_with (filled_pieces l.left) l.value) ≡ first_match l.self.comparison (pairs_with (flag_keys l.key) l.value)

abbrev pub decreases-loop-piece : goal.decreases-loop-piece
decreases-loop-piece l = length l.left
