-- The run of a script (RFC 5228, 2.10 and 4), with the scripts that it includes (RFC 6609, 3).
use Rattle.std.specs.Prelude.{◌≡◌, ℕ, List, [], ◌∷◌, ◌++◌, zero, suc, length, Bool, true, false, not, ◌&&◌, ◌||◌, Option, None, Some, if◌then◌else◌, nat_lt}
use Rattle.std.specs.List.{list_any}
use Rattle.sieve_limits.specs.Limits.{include_depth, include_limit}
use Rattle.sieve_script.specs.Reading.{Ask, Leaf}
use Rattle.sieve_script.specs.Script.{Condition, always, never, asks, negated, all_hold, any_holds, Conditions, no_conditions, one_condition, Commands, no_commands, stops, returns, acts, chooses, Branches, no_branches, else_branch, test_branch}
use Rattle.script_names.specs.declared.name.ScriptName.{ScriptName}
use Rattle.sieve_delivery.specs.Act.{act_by}
use Rattle.sieve_delivery.specs.Ending.{Ending, goes_on, returned, stopped, failed}
use Rattle.sieve_delivery.specs.Performing.{fails_at}
use Rattle.sieve_delivery.specs.declared.error.ErrorKind.TheVariants.{MissingScript, InvalidScript, RecursiveInclude, IncludeDepth, IncludeCount}
use Rattle.sieve_delivery.specs.Delivery.{Arrival, Delivery, inside}
use Rattle.sieve_conditions.specs.Matching.{after_test, truth_of}
use Rattle.sieve_run.specs.Library.{Lookup, missing, invalid, present, found_at}
use Rattle.script_names.specs.Name.{name_eq}
use Rattle.sieve_delivery.specs.State.{RunState}
use Rattle.sieve_verdict.specs.Verdict.{Verdict}
use Rattle.sieve_variables.specs.Value.{Values, begun_values, no_values, resumed_values, with_matched}

-- the commands after an ending, which run only if the ending goes on
abbrev pub and_then : Ending → (RunState → Ending) → Ending
and_then (goes_on state) next = next state
and_then (returned state) next = returned state
and_then (stopped state) next = stopped state
and_then (failed error state) next = failed error state

-- TESTS

-- the truth of a test, and the state after it
pub record Answer : Type 0 where
  pub truth : Bool
  pub state : RunState

-- the answer of a test on the delivery
abbrev pub answer_of : Delivery → Ask → RunState → Answer
answer_of delivery ask state = record { truth = truth_of delivery state ask; state = after_test delivery ask state }

-- a state is another one, but for what a match gave
abbrev pub SetsMatched : RunState → RunState → Type 0
SetsMatched state next = (matched : List (List ℕ)) × (next ≡ record state { values = with_matched matched state.values })

abbrev pub inverted : Answer → Answer
inverted answer = record { truth = not answer.truth; state = answer.state }

-- the second test is asked only if the first holds, or only if it doesn't
abbrev pub also : Bool → (RunState → Answer) → RunState → Answer
also true second state = second state
also false second state = record { truth = false; state = state }

abbrev pub or_else : Bool → (RunState → Answer) → RunState → Answer
or_else true second state = record { truth = true; state = state }
or_else false second state = second state

unfoldable mutual
  -- A condition. `ask` answers its tests. It is true (RFC 5228, 5.10), false (RFC 5228, 5.6) or not
  -- (RFC 5228, 5.8). Or it is allof (RFC 5228, 5.2) or anyof (RFC 5228, 5.3). Its tests are asked
  -- from left to right, and no further than needed (RFC 5229, 3.2).
  pub decide : (Ask → RunState → Answer) → Condition → RunState → Answer
  decide ask always state = record { truth = true; state = state }
  decide ask never state = record { truth = false; state = state }
  decide ask (asks a) state = ask a state
  decide ask (negated c) state = inverted (decide ask c state)
  decide ask (all_hold cs) state = decide_all ask cs state
  decide ask (any_holds cs) state = decide_any ask cs state

  pub decide_all : (Ask → RunState → Answer) → Conditions → RunState → Answer
  decide_all ask no_conditions state = record { truth = true; state = state }
  decide_all ask (one_condition c cs) state = also (decide ask c state).truth (decide_all ask cs) (decide ask c state).state

  pub decide_any : (Ask → RunState → Answer) → Conditions → RunState → Answer
  decide_any ask no_conditions state = record { truth = false; state = state }
  decide_any ask (one_condition c cs) state = or_else (decide ask c state).truth (decide_any ask cs) (decide ask c state).state

-- COMMANDS

-- the block if the truth holds, or else the other branches (RFC 5228, 3.1)
abbrev pub chosen : Bool → (RunState → Ending) → (RunState → Ending) → RunState → Ending
chosen true block otherwise state = block state
chosen false block otherwise state = otherwise state

unfoldable mutual
  -- A list of commands. `ask` answers tests, and `act` carries out commands that act. The other
  -- commands are stop (RFC 5228, 3.3), return (RFC 6609, 3.3), and if with its branches (RFC 5228,
  -- 3.1).
  pub exec : (Ask → RunState → Answer) → (Leaf → ℕ → RunState → Ending) → Commands → RunState → Ending
  exec ask act no_commands state = goes_on state
  exec ask act (stops rest) state = stopped state
  exec ask act (returns rest) state = returned state
  exec ask act (acts leaf line rest) state = and_then (act leaf line state) (exec ask act rest)
  exec ask act (chooses branches rest) state = and_then (exec_branches ask act branches state) (exec ask act rest)

  -- The branches of an `if`. The first block whose condition holds runs. If none holds, the block
  -- of the `else` runs, or nothing.
  pub exec_branches : (Ask → RunState → Answer) → (Leaf → ℕ → RunState → Ending) → Branches → RunState → Ending
  exec_branches ask act no_branches state = goes_on state
  exec_branches ask act (else_branch inner) state = exec ask act inner state
  exec_branches ask act (test_branch condition inner others) state =
      chosen (decide ask condition state).truth (exec ask act inner) (exec_branches ask act others) (decide ask condition state).state

-- INCLUDED SCRIPTS

-- whether a name is one of some names of scripts
abbrev pub is_script : ScriptName → List ScriptName → Bool
is_script name names = list_any (name_eq name) names

-- Whether a script runs. It does if it is the running one, or one that includes it.
abbrev pub is_running : ScriptName → Delivery → Bool
is_running name delivery = name_eq name delivery.script || is_script name delivery.including

-- whether there is a text at a name
abbrev pub is_there : Lookup → Bool
is_there missing = false
is_there invalid = true
is_there (present program) = true

-- whether a name was looked up
abbrev pub is_looked_up : ScriptName → List (ScriptName × Bool) → Bool
is_looked_up name lookups = list_any (λ read. name_eq name read.0) lookups

-- The names that were looked up, with one more. Each is there once, in the order of first lookups.
abbrev pub with_lookup : ScriptName → Bool → List (ScriptName × Bool) → List (ScriptName × Bool)
with_lookup name there lookups = if is_looked_up name lookups then lookups else lookups ++ (name, there) ∷ []

abbrev pub looked_up : ScriptName → Lookup → RunState → RunState
looked_up name lookup state = record state { lookups = with_lookup name (is_there lookup) state.lookups }

-- The state in which an included script begins. It shares actions, flags and global variables with
-- the including script. It has no variables of its own (RFC 6609, 3.4).
abbrev pub entering : ScriptName → RunState → RunState
entering name state = record state { entered = state.entered ++ name ∷ []; values = begun_values state.values }

-- The state after an included script. The variables of the including script stand again (RFC 6609,
-- 3.4).
abbrev pub resuming : Values → RunState → RunState
resuming before state = record state { values = resumed_values before state.values }

-- After an included script came to its end or returned, the including one goes on (RFC 6609, 3.3).
-- An ending that ended the run stays.
abbrev pub resumed : Values → Ending → Ending
resumed before (goes_on state) = goes_on (resuming before state)
resumed before (returned state) = goes_on (resuming before state)
resumed before (stopped state) = stopped (resuming before state)
resumed before (failed error state) = failed error (resuming before state)

-- An include, by the script that is found at its name. `enter` runs a script. If a script is
-- missing that may be missing, nothing is done.
abbrev pub with_found_script : Delivery → (optional : Bool) → ℕ → (enter : Commands → RunState → Ending) → ScriptName → Lookup → RunState → Ending
with_found_script delivery optional line enter name missing state = if optional then goes_on state else fails_at delivery line MissingScript state
with_found_script delivery optional line enter name invalid state = fails_at delivery line InvalidScript state
with_found_script delivery optional line enter name (present program) state = resumed state.values (enter program (entering name state))

-- An include that is too deep is an error. So is one too many, counted by the scripts that were
-- entered beside the main one. Otherwise its name is looked up.
abbrev pub includes : (ScriptName → Lookup) → Delivery → (enter : Option (ScriptName → Commands → RunState → Ending)) → ScriptName → (optional : Bool) → ℕ → RunState → Ending
includes find delivery None name optional line state = fails_at delivery line IncludeDepth state
includes find delivery (Some enter) name optional line state =
    if nat_lt include_limit (length state.entered) then fails_at delivery line IncludeCount state else
    with_found_script delivery optional line (enter name) name (found_at find name) (looked_up name (found_at find name) state)

-- An include (RFC 6609, 3.2). `enter` runs a script, or is none if no script may be included so
-- deep. Under `:once` nothing is done if the script was entered before. If the script runs, the
-- include is an error.
abbrev pub include_of : (ScriptName → Lookup) → Delivery → (enter : Option (ScriptName → Commands → RunState → Ending)) → ScriptName → (once optional : Bool) → ℕ → RunState → Ending
include_of find delivery enter name once optional line state =
    if once && is_script name state.entered then goes_on state else
    if is_running name delivery then fails_at delivery line RecursiveInclude state else includes find delivery enter name optional line state

-- an include, where `depth` more levels of includes are allowed below the running script (RFC 6609,
-- 3.2)
unfoldable pub included : (ScriptName → Lookup) → (depth : ℕ) → Delivery → ScriptName → (once optional : Bool) → ℕ → RunState → Ending
included find zero delivery name once optional line state = include_of find delivery None name once optional line state
included find (suc depth) delivery name once optional line state =
    include_of find delivery (Some (λ script program. exec (answer_of (inside script delivery)) (act_by (included find depth (inside script delivery)) (inside script delivery)) program)) name once optional line state

-- the ending of a command that acts
abbrev pub act_of : (ScriptName → Lookup) → (depth : ℕ) → Delivery → Leaf → ℕ → RunState → Ending
act_of find depth delivery = act_by (included find depth delivery) delivery

-- the run of the script that runs, by its abstract script
abbrev pub running : (ScriptName → Lookup) → (depth : ℕ) → Delivery → Commands → RunState → Ending
running find depth delivery program = exec (answer_of delivery) (act_of find depth delivery) program

-- THE VERDICT

-- The flags of the implicit keep, which stands if no action cancelled it (RFC 5228, 2.10.2). They
-- are the internal flags at the end (RFC 5232, 5).
abbrev pub implicit_of : RunState → Option (List (List ℕ))
implicit_of state = if state.cancelled then None else Some state.flags

-- In the main script a return is the end (RFC 6609, 3.3). After an error no action is taken. The
-- implicit keep then stands, without flags (RFC 5228, 2.10.2 and 2.10.6).
abbrev pub verdict_after : Ending → Verdict
verdict_after (goes_on state) = record { entries = state.entries; implicit = implicit_of state; error = None; lookups = state.lookups }
verdict_after (returned state) = record { entries = state.entries; implicit = implicit_of state; error = None; lookups = state.lookups }
verdict_after (stopped state) = record { entries = state.entries; implicit = implicit_of state; error = None; lookups = state.lookups }
verdict_after (failed error state) = record { entries = []; implicit = Some []; error = Some error; lookups = state.lookups }

-- the state in which the main script begins
abbrev pub begun : ScriptName → RunState
begun main = record { entries = []; cancelled = false; lookups = (main, true) ∷ []; entered = main ∷ []; values = no_values; flags = [] }

-- the delivery for the main script, which no script includes
abbrev pub delivery_to : Arrival → ScriptName → Delivery
delivery_to arrival main = record { arrival = arrival; script = main; including = [] }

-- the run of the main script
abbrev pub run_of : (ScriptName → Lookup) → Arrival → ScriptName → Commands → Ending
run_of find arrival main program = running find include_depth (delivery_to arrival main) program (begun main)

-- the verdict, by the main script that is found
abbrev pub verdict_at : (ScriptName → Lookup) → Arrival → ScriptName → Lookup → Verdict
verdict_at find arrival main missing = record { entries = []; implicit = Some []; error = Some (record { script = main; line = 0; kind = MissingScript }); lookups = (main, false) ∷ [] }
verdict_at find arrival main invalid = record { entries = []; implicit = Some []; error = Some (record { script = main; line = 0; kind = InvalidScript }); lookups = (main, true) ∷ [] }
verdict_at find arrival main (present program) = verdict_after (run_of find arrival main program)

-- the verdict on a message over a library, with the names that it looked up
unfoldable pub verdict_of : (ScriptName → Lookup) → Option ScriptName → Arrival → Verdict
verdict_of find None arrival = record { entries = []; implicit = Some []; error = None; lookups = [] }
verdict_of find (Some main) arrival = verdict_at find arrival main (found_at find main)
