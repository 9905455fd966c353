-- The meaning of a state of the program.
use Rattle.sieve_delivery.specs.declared.state.RunState as states
use Rattle.sieve_delivery.specs.State.{RunState}

abbrev pub state_of : states.RunState → RunState
state_of s = record { entries = s.actions.entries; cancelled = s.cancelled; lookups = s.lookups.entries; entered = s.entered.items; values = s.values; flags = s.actions.flags }
