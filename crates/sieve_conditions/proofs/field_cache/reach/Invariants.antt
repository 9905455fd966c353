use Rattle.std.proofs.Common.{length, ◌+◌, ◌-◌}
use Rattle.sieve_conditions.specs.view.FieldCache.{HasNoMore}
use Rattle.sieve_conditions.proofs.field_cache.reach.Given as goal

abbrev pub invariant-loop-places : goal.invariant-loop-places
invariant-loop-places g l = HasNoMore l.initial.places.items l.places.items

abbrev pub decreases-loop-places : goal.decreases-loop-places
decreases-loop-places g l = l.place + 1 - length l.places.items
