use Rattle.std.proofs.Common.{◌≡◌, ◌++◌, map}
use Rattle.sieve_delivery.specs.Joining.{joined_entry}
use Rattle.sieve_delivery.specs.declared.action.Action.TheVariants.{Store}
use Rattle.sieve_delivery.specs.view.Actions.{AreKnown, entries_as}
use Rattle.sieve_delivery.proofs.entries.all_with_flags.Given as goal

-- The joined entries so far, and then those left joined with the store, are all entries joined with
-- it. The facts known of both are known.
abbrev pub invariant-loop-there : goal.invariant-loop-there
invariant-loop-there l =
    (entries_as l.joined.items ++ map (joined_entry (Store l.mailbox l.flags l.filing)) (entries_as l.there-iterator.rest.items) ≡ map (joined_entry (Store l.mailbox l.flags l.filing)) (entries_as l.fn.entries.items))
    × AreKnown l.flags l.there-iterator.rest.items × AreKnown l.flags l.joined.items
