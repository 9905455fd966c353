-- The state of a run.
use Rattle.std.specs.Prelude.{ℕ, Bool, List, map}
use Rattle.sieve_variables.specs.Value.{Values}
use Rattle.script_names.specs.declared.name.ScriptName.{ScriptName}
use Rattle.sieve_delivery.specs.declared.action.Action.{Action}
use Rattle.sieve_delivery.specs.declared.action.Origin.{Origin}

-- an action of a run, with the command that entered it first
pub record Entered : Type 0 where
  pub action : Action
  pub origin : Origin

-- the actions alone
abbrev pub actions_in : List Entered → List Action
actions_in entries = map (λ (entry : Entered). entry.action) entries

pub record RunState : Type 0 where
  -- the actions in order, each with the command that entered it first
  pub entries : List Entered
  -- Whether an action that was performed cancelled the implicit keep. It may be one that added no
  -- entry. See RFC 5228, 2.10.2; RFC 3894, 3; RFC 5230, 4.7; RFC 5429, 2.4.
  pub cancelled : Bool
  -- the names looked up so far, and whether each was there
  pub lookups : List (ScriptName × Bool)
  -- the scripts that were entered, in order, the main script first (RFC 6609, 3.2)
  pub entered : List ScriptName
  -- the variables of the script that runs, and those that scripts share
  pub values : Values
  -- the internal flags (RFC 5232, 2)
  pub flags : List (List ℕ)
