use Rattle.std.proofs.Common.{◌≡◌, ◌++◌, map}
use Rattle.sieve_delivery.specs.view.Actions.{joined_in}
use Rattle.sieve_delivery.proofs.entries.all_joined.Given as goal

-- The joined entries so far, and then those left joined with the action, are all entries joined
-- with it.
abbrev pub invariant-loop-there : goal.invariant-loop-there
invariant-loop-there l = l.joined.items ++ map (joined_in l.action) l.there-iterator.rest.items ≡ map (joined_in l.action) l.fn.entries.items
