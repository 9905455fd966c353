-- How deep scripts include one another: the number of scripts that include the running one.
use Rattle.std.proofs.Common.{◌≡◌, ℕ, zero, suc, ◌+◌, ◌-◌, ◌≤◌, Bool, true, false, ◌&&◌, Option, None, Some, length, nat_lt, refl, ap, ◌∙◌, arith}
use Rattle.std.proofs.lemmas.Bool.Decides.{nat_tests}
use Rattle.std.proofs.lemmas.List.{length_push}
use Rattle.std.specs.Prelude.{if◌then◌else◌}
use Rattle.sieve_limits.specs.Limits.{include_depth}
use Rattle.sieve_script.specs.Script.{Commands}
use Rattle.sieve_delivery.specs.Delivery.{Arrival, Delivery, inside}
use Rattle.sieve_run.specs.Depth.{IsDeepest, depth_left, entered_within, watched, watched_include, watched_run}
use Rattle.sieve_run.specs.Library.{Lookup}
use Rattle.sieve_delivery.specs.Act.{act_by}
use Rattle.sieve_delivery.specs.Ending.{Ending, goes_on, state_after}
use Rattle.sieve_run.specs.Run.{answer_of, begun, delivery_to, exec, include_of, included, is_running, is_script, run_of, running}
use Rattle.sieve_delivery.specs.State.{RunState}
use Rattle.script_names.specs.declared.name.ScriptName.{ScriptName}

-- the main script has all depth left
pub main_first : (find : ScriptName → Lookup) (arrival : Arrival) (main : ScriptName) (program : Commands) → run_of find arrival main program ≡ running find (depth_left (delivery_to arrival main)) (delivery_to arrival main) program (begun main)
main_first find arrival main program = refl

-- With one more script that includes the running one, one level less is left. If as many include it
-- as may, none is left.
one_less : (n m : ℕ) → m ≡ n + 1 → nat_lt n include_depth ≡ true → include_depth - n ≡ suc (include_depth - m)
one_less n m next room = grind (arith, nat_tests)

none_left : (n : ℕ) → nat_lt n include_depth ≡ false → include_depth - n ≡ zero
none_left n full = grind (arith, nat_tests)

module _ (find : ScriptName → Lookup) (delivery : Delivery) (name : ScriptName) (once optional : Bool) (line : ℕ) (s : RunState) where
  -- the ending of the include, by how a script is entered
  abbrev done_by : Option (ScriptName → Commands → RunState → Ending) → Ending
  done_by enter = include_of find delivery enter name once optional line s

  -- how a script is entered, where `depth` more levels of includes are allowed below it
  abbrev entered_at : ℕ → ScriptName → Commands → RunState → Ending
  entered_at depth script = running find depth (inside script delivery)

  by_room : (room : Bool) → nat_lt (length delivery.including) include_depth ≡ room
      → included find (depth_left delivery) delivery name once optional line s ≡ done_by (if room then Some (λ script. entered_at (depth_left (inside script delivery)) script) else None)
  unfolding included
  by_room true room =
      ap (λ (depth : ℕ). included find depth delivery name once optional line s) (one_less (length delivery.including) (length (inside name delivery).including) (length_push delivery.including delivery.script) room)
  by_room false full = ap (λ (depth : ℕ). included find depth delivery name once optional line s) (none_left (length delivery.including) full)

  -- an include with the levels that are left ends as it does by the number of including scripts
  pub by_stack : included find (depth_left delivery) delivery name once optional line s ≡ done_by (entered_within find delivery)
  by_stack = by_room (nat_lt (length delivery.including) include_depth) refl

  none_by : (skips runs_already : Bool) (fails others : Ending) → (state_after fails).entered ≡ s.entered → (state_after others).entered ≡ s.entered → (state_after (if skips then goes_on s else if runs_already then fails else others)).entered ≡ s.entered
  none_by true runs_already fails others f o = refl
  none_by false true fails others f o = f
  none_by false false fails others f o = o

  full_of : IsDeepest delivery → nat_lt (length delivery.including) include_depth ≡ false
  full_of deep = grind (arith, nat_tests, deep)

  -- if as many scripts include the running one as may, an include enters no script
  pub none_deeper : IsDeepest delivery → (state_after (included find (depth_left delivery) delivery name once optional line s)).entered ≡ s.entered
  none_deeper deep =
      ap (λ e. (state_after e).entered) (by_room false (full_of deep))
      ∙ none_by (once && is_script name s.entered) (is_running name delivery) _ _ refl refl

-- A RUN THAT IS WATCHED

module _ (beyond : Delivery → Commands → RunState → Ending) (find : ScriptName → Lookup) where
  -- in a script, watched includes do the same as includes
  abbrev DoAlike : ℕ → Delivery → Type 0
  DoAlike depth delivery = (name : ScriptName) (once optional : Bool) (line : ℕ) (s : RunState) → watched_include beyond find depth delivery name once optional line s ≡ included find depth delivery name once optional line s

  by_depth : (depth : ℕ) (delivery : Delivery) (program : Commands) (s : RunState) (deep : Bool) → deep ≡ false → DoAlike depth delivery
      → (if deep then beyond delivery program s else exec (answer_of delivery) (act_by (watched_include beyond find depth delivery) delivery) program s) ≡ running find depth delivery program s
  by_depth depth delivery program s true shallow alike = absurd cc
  by_depth depth delivery program s false shallow alike =
      ap (λ (include : ScriptName → Bool → Bool → ℕ → RunState → Ending). exec (answer_of delivery) (act_by include delivery) program s) (λ i name once optional line t. alike name once optional line t i)

  -- a script that isn't too deep does the same if it is watched
  script_alike : (depth : ℕ) (delivery : Delivery) (program : Commands) (s : RunState) → length delivery.including ≤ include_depth → DoAlike depth delivery
      → watched beyond (watched_include beyond find depth delivery) delivery program s ≡ running find depth delivery program s
  script_alike depth delivery program s shallow alike = by_depth depth delivery program s (nat_lt include_depth (length delivery.including)) (grind (arith, nat_tests, shallow)) alike

  include_alike : (depth : ℕ) (delivery : Delivery) → length delivery.including + depth ≤ include_depth → DoAlike depth delivery
  unfolding included watched_include
  include_alike zero delivery room name once optional line s = refl
  include_alike (suc depth) delivery room name once optional line s =
      ap (λ (enter : ScriptName → Commands → RunState → Ending). include_of find delivery (Some enter) name once optional line s)
      (λ i script program t. script_alike depth (inside script delivery) program t (below script) (include_alike depth (inside script delivery) (room_in script)) i)
    where
      below : (script : ScriptName) → length (inside script delivery).including ≤ include_depth
      below script = omega (arith, length_push delivery.including delivery.script)

      room_in : (script : ScriptName) → length (inside script delivery).including + depth ≤ include_depth
      room_in script = omega (arith, length_push delivery.including delivery.script)

  -- no run comes to a script that is too deep
  pub never_beyond : (arrival : Arrival) (main : ScriptName) (program : Commands) → watched_run beyond find arrival main program ≡ run_of find arrival main program
  never_beyond arrival main program =
      let delivery = delivery_to arrival main in
      script_alike include_depth delivery program (begun main) (omega arith) (include_alike include_depth delivery (omega arith))
