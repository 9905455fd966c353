-- The verdict of a run.
use Rattle.std.specs.Prelude.{ℕ, List, Bool, Option}
use Rattle.script_names.specs.declared.name.ScriptName.{ScriptName}
use Rattle.sieve_delivery.specs.State.{Entered, actions_in}
use Rattle.sieve_delivery.specs.declared.action.Action.{Action}
use Rattle.sieve_delivery.specs.declared.error.RunError.{RunError}

-- The actions in order, each with the command that entered it first. Then the flags of the implicit
-- keep if there is one, and the error. Then the names that were looked up, each present or missing.
pub record Verdict : Type 0 where
  pub entries : List Entered
  pub implicit : Option (List (List ℕ))
  pub error : Option RunError
  pub lookups : List (ScriptName × Bool)

-- the actions alone
abbrev pub actions_of : Verdict → List Action
actions_of verdict = actions_in verdict.entries
