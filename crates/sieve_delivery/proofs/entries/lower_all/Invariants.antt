use Rattle.std.proofs.Common.{◌≡◌, ◌++◌, drop, map, take}
use Rattle.sieve_delivery.specs.view.Actions.{lowered_in}
use Rattle.sieve_delivery.proofs.entries.lower_all.Given as goal

-- the known numbers of the entries so far are lowered, and the other entries are as they were
abbrev pub invariant-loop-entry : goal.invariant-loop-entry
invariant-loop-entry l = l.entry-items ≡ map (lowered_in l.place) (take l.entry-index l.initial.entry-items) ++ drop l.entry-index l.initial.entry-items
