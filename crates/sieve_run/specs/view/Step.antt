-- The rest of a run after an operation.
use Rattle.std.specs.Prelude.{◌≡◌, ◌+◌, ℕ, Bool, Some, Result, Ok}
use Rattle.sieve_script.specs.Reading.{Leaf}
use Rattle.sieve_code.specs.Operation.{Operation}
use Rattle.sieve_code.specs.Walk as walk
use Rattle.sieve_code.specs.Walk.{Walk}
use Rattle.sieve_delivery.specs.Delivery.{Delivery}
use Rattle.sieve_run.specs.Perform.{perform}
use Rattle.sieve_delivery.specs.Ending.{Ending}
use Rattle.sieve_run.specs.Run.{answer_of}
use Rattle.sieve_delivery.specs.State.{RunState}
use Rattle.sieve_delivery.specs.declared.ending.Ending as endings
use Rattle.sieve_delivery.specs.declared.ending.Ending.TheVariants as ending
use Rattle.sieve_run.specs.declared.turn.Step.{Step}
use Rattle.sieve_run.specs.declared.turn.Step.TheVariants.{Next, Ended}
use Rattle.sieve_delivery.specs.view.Ending.{ending_by}
use Rattle.script_names.specs.declared.name.ScriptName.{ScriptName}

-- the effect of commands that act
abbrev pub Acts : Type 0
Acts = Leaf → ℕ → RunState → Ending

-- the effect of an include
abbrev pub Includes : Type 0
Includes = ScriptName → (once optional : Bool) → ℕ → RunState → Ending

-- the run of a walk on a delivery
abbrev pub doing : Acts → Delivery → Walk → RunState → Ending
doing act delivery w state = perform (answer_of delivery) act w state

-- The run after a step. `go` is the walk from a place with a truth in the register.
abbrev pub doing_after : Acts → Delivery → (go : ℕ → Bool → Walk) → Step → RunState → Ending
doing_after act delivery go (Next place register) state = doing act delivery (go place register) state
doing_after act delivery go (Ended ending) state = ending_by ending state

-- A step does its operation, whatever the walk after it. `after` is the place after the operation.
pub record StepsTo (act : Acts) (delivery : Delivery) (op : Operation) (after : ℕ) (register : Bool) (old : RunState) (step : Step) (new : RunState) : Type 0 where
  pub before : (place : ℕ) (go : ℕ → Bool → Walk) → after ≡ place + 1 → doing act delivery (walk.step go (Some op) place register) old ≡ doing_after act delivery go step new

-- The step after a command, by how the command ended. `after` is the place after its operation.
abbrev pub step_after : endings.Ending → ℕ → Bool → Step
step_after ending.GoesOn after register = Next after register
step_after ending.Returned after register = Ended ending.Returned
step_after ending.Stopped after register = Ended ending.Stopped
step_after (ending.Failed error) after register = Ended (ending.Failed error)

-- the call succeeded, and the step is the one after its result
abbrev pub StepFollows : {T E : Type 0} → Result T E → (T → Step) → Step → Type 0
StepFollows {T = T} called after step = (given : T) × (called ≡ Ok given) × (step ≡ after given)
