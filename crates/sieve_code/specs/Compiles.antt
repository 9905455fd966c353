-- Operations that are the code of an abstract script.
use Rattle.std.specs.Prelude.{◌≡◌, List, length}
use Rattle.sieve_script.specs.Script.{Commands}
use Rattle.sieve_code.specs.Choice.{code_of}
use Rattle.sieve_code.specs.Operation.{Operation}
use Rattle.sieve_code.specs.Walk.{code_walk, script_walk}

-- The operations are those that are chosen for a script. In at most as many turns as there are
-- operations, they do what the script does.
pub record Compiles (script : Commands) (ops : List Operation) : Type 0 where
  pub chosen : ops ≡ code_of script
  pub does : code_walk ops (length ops) ≡ script_walk script

-- operations are the code of some script
pub record IsCode (ops : List Operation) : Type 0 where
  pub script : Commands
  pub compiles : Compiles script ops
