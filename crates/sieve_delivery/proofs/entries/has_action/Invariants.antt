use Rattle.std.proofs.Common.{◌≡◌, drop}
use Rattle.std.specs.List.{list_any}
use Rattle.sieve_delivery.specs.Joining.{same_action}
use Rattle.sieve_delivery.specs.State.{actions_in}
use Rattle.sieve_delivery.specs.view.Actions.{entries_as}
use Rattle.sieve_delivery.proofs.entries.has_action.Given as goal

-- one of the entries that are left has such an action exactly if one of all entries has
abbrev pub invariant-loop-entry : goal.invariant-loop-entry
invariant-loop-entry l = list_any (same_action l.action) (actions_in (entries_as (drop l.entry-index l.entries))) ≡ list_any (same_action l.action) (actions_in (entries_as l.entries))
