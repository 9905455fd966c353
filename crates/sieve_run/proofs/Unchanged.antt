-- Laws about the changes that tests and commands make to the state of a run.
use Rattle.std.proofs.Common.{◌≡◌, ℕ, Bool, true, false, List, Option, None, Some, refl, ap, ◌∙◌}
use Rattle.std.specs.Prelude.{if◌then◌else◌}
use Rattle.sieve_script.specs.Reading.{Ask, Leaf, compares, exists_ask, over_ask, under_ask, mailboxes_ask, duplicate_ask}
use Rattle.sieve_script.specs.declared.reading.MatchType.{MatchType}
use Rattle.sieve_script.specs.declared.reading.MatchType.TheVariants.{Is, Contains, Matches, Value, Count}
use Rattle.sieve_script.specs.Script.{Condition, always, never, asks, negated, all_hold, any_holds, Conditions, no_conditions, one_condition, Commands, stops, returns}
use Rattle.sieve_delivery.specs.Delivery.{Delivery}
use Rattle.sieve_conditions.specs.Matching.{after_test, match_found, sets_matched, values_after, with_found}
use Rattle.sieve_delivery.specs.Ending.{Ending, returned, stopped}
use Rattle.sieve_run.specs.Run.{SetsMatched, Answer, and_then, answer_of, also, or_else, decide, decide_all, decide_any, exec}
use Rattle.sieve_delivery.specs.State.{RunState}
use Rattle.sieve_variables.specs.Value.{with_matched}

-- after two matches in turn, a state is the one before them but for what a match gave
again : (state between next : RunState) → SetsMatched state between → SetsMatched between next → SetsMatched state next
again state between next first second =
    (second.0, second.1 ∙ ap {A = RunState} (λ s. record s { values = with_matched second.0 s.values }) first.1)

-- Two tests together set match variables at most, if each of them does. It doesn't matter whether
-- the second is asked.
also_keeps : (truth : Bool) (second : RunState → Answer) (state between : RunState) → ((s : RunState) → SetsMatched s (second s).state) → SetsMatched state between → SetsMatched state (also truth second between).state
also_keeps true second state between keeps same = again state between (second between).state same (keeps between)
also_keeps false second state between keeps same = same

or_else_keeps : (truth : Bool) (second : RunState → Answer) (state between : RunState) → ((s : RunState) → SetsMatched s (second s).state) → SetsMatched state between → SetsMatched state (or_else truth second between).state
or_else_keeps true second state between keeps same = same
or_else_keeps false second state between keeps same = again state between (second between).state same (keeps between)

-- the values that a test finds set match variables or nothing
found_keeps : (match_type : MatchType) (found : Option (List (List ℕ))) (state : RunState) → SetsMatched state (record state { values = with_found match_type found state.values })
found_keeps Matches (Some matched) state = (matched, refl)
found_keeps Matches None state = (state.values.matched, refl)
found_keeps Is found state = (state.values.matched, refl)
found_keeps Contains found state = (state.values.matched, refl)
found_keeps (Value relation) found state = (state.values.matched, refl)
found_keeps (Count relation) found state = (state.values.matched, refl)

-- if match variables are to stay, a test sets nothing
found_in_keeps : (sets : Bool) (match_type : MatchType) (found : Option (List (List ℕ))) (state : RunState) → SetsMatched state (record state { values = if sets then with_found match_type found state.values else state.values })
found_in_keeps true match_type found state = found_keeps match_type found state
found_in_keeps false match_type found state = (state.values.matched, refl)

ask_keeps : (delivery : Delivery) (ask : Ask) (state : RunState) → SetsMatched state (after_test delivery ask state)
unfolding values_after
ask_keeps delivery (compares source comparison keys) state = found_in_keeps (sets_matched source) comparison.match_type (match_found delivery state source comparison keys) state
ask_keeps delivery (exists_ask names) state = (state.values.matched, refl)
ask_keeps delivery (over_ask limit) state = (state.values.matched, refl)
ask_keeps delivery (under_ask limit) state = (state.values.matched, refl)
ask_keeps delivery (mailboxes_ask names) state = (state.values.matched, refl)
ask_keeps delivery duplicate_ask state = (state.values.matched, refl)

-- tests set match variables at most
mutual
  unfolding decide decide_all decide_any

  pub decide_keeps : (delivery : Delivery) (c : Condition) (state : RunState) → SetsMatched state (decide (answer_of delivery) c state).state
  decide_keeps delivery always state = (state.values.matched, refl)
  decide_keeps delivery never state = (state.values.matched, refl)
  decide_keeps delivery (asks ask) state = ask_keeps delivery ask state
  decide_keeps delivery (negated c) state = decide_keeps delivery c state
  decide_keeps delivery (all_hold cs) state = all_keep delivery cs state
  decide_keeps delivery (any_holds cs) state = any_keeps delivery cs state

  all_keep : (delivery : Delivery) (cs : Conditions) (state : RunState) → SetsMatched state (decide_all (answer_of delivery) cs state).state
  all_keep delivery no_conditions state = (state.values.matched, refl)
  all_keep delivery (one_condition c cs) state =
      also_keeps (decide (answer_of delivery) c state).truth (decide_all (answer_of delivery) cs) state (decide (answer_of delivery) c state).state (all_keep delivery cs) (decide_keeps delivery c state)

  any_keeps : (delivery : Delivery) (cs : Conditions) (state : RunState) → SetsMatched state (decide_any (answer_of delivery) cs state).state
  any_keeps delivery no_conditions state = (state.values.matched, refl)
  any_keeps delivery (one_condition c cs) state =
      or_else_keeps (decide (answer_of delivery) c state).truth (decide_any (answer_of delivery) cs) state (decide (answer_of delivery) c state).state (any_keeps delivery cs) (decide_keeps delivery c state)

-- no command after a stop is run
pub stop_ends : (ask : Ask → RunState → Answer) (act : Leaf → ℕ → RunState → Ending) (rest : Commands) (after : RunState → Ending) (state : RunState) → and_then (exec ask act (stops rest) state) after ≡ stopped state
unfolding exec
stop_ends ask act rest after state = refl

-- no command after a return is run
pub return_ends : (ask : Ask → RunState → Answer) (act : Leaf → ℕ → RunState → Ending) (rest : Commands) (after : RunState → Ending) (state : RunState) → and_then (exec ask act (returns rest) state) after ≡ returned state
unfolding exec
return_ends ask act rest after state = refl
