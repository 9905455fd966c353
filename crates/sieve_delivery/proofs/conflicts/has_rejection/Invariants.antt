use Rattle.std.proofs.Common.{◌≡◌, drop}
use Rattle.std.specs.List.{list_any}
use Rattle.sieve_delivery.specs.Conflicts.{is_rejection}
use Rattle.sieve_delivery.specs.State.{actions_in}
use Rattle.sieve_delivery.specs.view.Actions.{entries_as}
use Rattle.sieve_delivery.proofs.conflicts.has_rejection.Given as goal

-- one of the entries that are left is a rejection exactly if one of all entries is
abbrev pub invariant-loop-entry : goal.invariant-loop-entry
invariant-loop-entry l = list_any (is_rejection) (actions_in (entries_as (drop l.entry-index l.entries))) ≡ list_any (is_rejection) (actions_in (entries_as l.entries))
