-- The steps of the interpreter when a script is included.
use Rattle.std.specs.Prelude.{ℕ, Bool, true, false, List, length}
use Rattle.sieve_code.specs.Operation.{Operation}
use Rattle.sieve_code.specs.Walk.{code_walk}
use Rattle.sieve_delivery.specs.Delivery.{Delivery, inside}
use Rattle.sieve_run.specs.Library.{Lookup, found_at}
use Rattle.sieve_delivery.specs.Ending.{Ending}
use Rattle.sieve_run.specs.Run.{act_of, answer_of, entering, exec, looked_up, resumed, with_found_script}
use Rattle.sieve_delivery.specs.State.{RunState}
use Rattle.sieve_delivery.specs.declared.ending.Ending as endings
use Rattle.sieve_delivery.specs.declared.ending.Ending.TheVariants.{GoesOn, Returned, Stopped, Failed}
use Rattle.sieve_run.specs.declared.library.Found.{Found}
use Rattle.sieve_run.specs.declared.library.Found.TheVariants.{Missing, Invalid, Present}
use Rattle.script_names.specs.declared.name.ScriptName.{ScriptName}
use Rattle.sieve_run.specs.view.Step.{doing}

abbrev pub there_as : Found → Bool
there_as Missing = false
there_as Invalid = true
there_as (Present code) = true

abbrev pub resumed_by : endings.Ending → endings.Ending
resumed_by GoesOn = GoesOn
resumed_by Returned = GoesOn
resumed_by Stopped = Stopped
resumed_by (Failed error) = Failed error

-- running these operations of an included script, where `depth` more levels of includes are allowed
-- below it
abbrev pub enters : (ScriptName → Lookup) → (depth : ℕ) → Delivery → ScriptName → List Operation → RunState → Ending
enters find depth delivery name ops state = resumed state.values (doing (act_of find depth (inside name delivery)) (inside name delivery) (code_walk ops (length ops)) (entering name state))

-- looking a script up and including it
abbrev pub looks_up : (ScriptName → Lookup) → (depth : ℕ) → Delivery → ScriptName → Bool → ℕ → RunState → Ending
looks_up find depth delivery name optional line state =
    with_found_script delivery optional line (λ program. exec (answer_of (inside name delivery)) (act_of find depth (inside name delivery)) program) name (found_at find name) (looked_up name (found_at find name) state)
