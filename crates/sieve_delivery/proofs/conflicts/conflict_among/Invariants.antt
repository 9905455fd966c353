use Rattle.std.proofs.Common.{◌≡◌, drop}
use Rattle.sieve_delivery.specs.Conflicts.{conflict_among}
use Rattle.sieve_delivery.specs.State.{actions_in}
use Rattle.sieve_delivery.specs.view.Actions.{entries_as}
use Rattle.sieve_delivery.proofs.conflicts.conflict_among.Given as goal

-- the error among the actions that are left is the error among all
abbrev pub invariant-loop-there : goal.invariant-loop-there
invariant-loop-there l = conflict_among l.performed (actions_in (entries_as (drop l.there-index l.entries))) ≡ conflict_among l.performed (actions_in (entries_as l.entries))
