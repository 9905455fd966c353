-- How deep scripts include one another: the number of scripts that include the running one
-- (RFC 6609, 3.1).
use Rattle.std.specs.Prelude.{ℕ, zero, suc, ◌-◌, ◌≤◌, Bool, length, Option, None, Some, if◌then◌else◌, nat_lt}
use Rattle.sieve_limits.specs.Limits.{include_depth}
use Rattle.sieve_script.specs.Script.{Commands}
use Rattle.sieve_delivery.specs.Delivery.{Arrival, Delivery, inside}
use Rattle.sieve_run.specs.Library.{Lookup}
use Rattle.sieve_delivery.specs.Act.{act_by}
use Rattle.sieve_delivery.specs.Ending.{Ending}
use Rattle.sieve_run.specs.Run.{answer_of, begun, delivery_to, exec, include_of, running}
use Rattle.sieve_delivery.specs.State.{RunState}
use Rattle.script_names.specs.declared.name.ScriptName.{ScriptName}

-- The number of levels of includes that are still allowed below the running script. Each script
-- that includes it takes one away.
abbrev pub depth_left : Delivery → ℕ
depth_left delivery = include_depth - length delivery.including

-- how a script is entered that the running one includes, or none if it may not be
abbrev pub entered_within : (ScriptName → Lookup) → Delivery → Option (ScriptName → Commands → RunState → Ending)
entered_within find delivery =
    if nat_lt (length delivery.including) include_depth then Some (λ name. running find (depth_left (inside name delivery)) (inside name delivery)) else None

-- the running script is included by at least as many scripts as may include it
abbrev pub IsDeepest : Delivery → Type 0
IsDeepest delivery = include_depth ≤ length delivery.including

-- A RUN THAT IS WATCHED

-- The run of a script, by its abstract script and by how its includes run. A script that more
-- scripts include than may isn't run. The result of `beyond` takes its place, whatever it is.
abbrev pub watched : (beyond : Delivery → Commands → RunState → Ending) → (include : ScriptName → (once optional : Bool) → ℕ → RunState → Ending) → Delivery → Commands → RunState → Ending
watched beyond include delivery program state =
    if nat_lt include_depth (length delivery.including) then beyond delivery program state else exec (answer_of delivery) (act_by include delivery) program state

-- An include, where `depth` more levels of includes are allowed below the running script. Each
-- script that is entered is watched.
unfoldable pub watched_include : (beyond : Delivery → Commands → RunState → Ending) → (ScriptName → Lookup) → (depth : ℕ) → Delivery → ScriptName → (once optional : Bool) → ℕ → RunState → Ending
watched_include beyond find zero delivery name once optional line state = include_of find delivery None name once optional line state
watched_include beyond find (suc depth) delivery name once optional line state =
    include_of find delivery (Some (λ script program. watched beyond (watched_include beyond find depth (inside script delivery)) (inside script delivery) program)) name once optional line state

-- the run of the main script, watched with all the scripts below it
abbrev pub watched_run : (beyond : Delivery → Commands → RunState → Ending) → (ScriptName → Lookup) → Arrival → ScriptName → Commands → Ending
watched_run beyond find arrival main program = watched beyond (watched_include beyond find include_depth (delivery_to arrival main)) (delivery_to arrival main) program (begun main)
