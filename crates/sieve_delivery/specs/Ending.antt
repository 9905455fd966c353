-- How a list of commands ends.
use Rattle.sieve_delivery.specs.declared.error.RunError.{RunError}
use Rattle.sieve_delivery.specs.State.{RunState}

-- How a list of commands ends. The run goes on after it, or its script ended by `return` (RFC 6609,
-- 3.3). Or the run ended, by `stop` (RFC 5228, 3.3) or by an error.
pub data Ending : Type 0 where
  goes_on : (state : RunState) → Ending
  returned : (state : RunState) → Ending
  stopped : (state : RunState) → Ending
  failed : (error : RunError) (state : RunState) → Ending

-- the state after the list of commands
abbrev pub state_after : Ending → RunState
state_after (goes_on state) = state
state_after (returned state) = state
state_after (stopped state) = state
state_after (failed error state) = state
