use Rattle.std.proofs.Common.{◌≡◌, drop}
use Rattle.std.specs.List.{list_any}
use Rattle.sieve_delivery.specs.view.Actions.{stores_into}
use Rattle.sieve_delivery.specs.State.{actions_in}
use Rattle.sieve_delivery.specs.view.Actions.{entries_as}
use Rattle.sieve_delivery.proofs.entries.has_store.Given as goal

-- one of the entries that are left stores so exactly if one of all entries does
abbrev pub invariant-loop-entry : goal.invariant-loop-entry
invariant-loop-entry l = list_any (stores_into l.mailbox) (actions_in (entries_as (drop l.entry-index l.entries))) ≡ list_any (stores_into l.mailbox) (actions_in (entries_as l.entries))
