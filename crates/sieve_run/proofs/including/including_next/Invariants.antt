use Rattle.std.proofs.Common.{◌≡◌, ◌++◌, drop}
use Rattle.sieve_run.proofs.including.including_next.Given as goal

-- the names that are copied, and then those that are left, are all names
abbrev pub invariant-loop-name : goal.invariant-loop-name
invariant-loop-name l = l.names.items ++ drop l.name-index l.name-items ≡ l.name-items
