use Rattle.std.proofs.Common.{◌≡◌, ◌+◌, ◌++◌, drop}
use Rattle.sieve_conditions.proofs.matcher.MatchValues.copied.Given as goal

-- the texts so far, and then the captures that are left, are all captures
abbrev pub invariant-loop-k : goal.invariant-loop-k
invariant-loop-k l = l.texts.items ++ drop (l.k + 1) l.captures ≡ l.captures
