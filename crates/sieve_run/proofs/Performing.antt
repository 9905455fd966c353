-- Doing the leaves of a script's walk is running the script.
use Rattle.std.proofs.Common.{◌≡◌, ℕ, Bool, true, false, not, List, ◌∷◌, length, refl, ap, sym, ◌∙◌}
use Rattle.sieve_script.specs.Reading.{Ask, Leaf}
use Rattle.sieve_script.specs.Script.{Condition, always, never, asks, negated, all_hold, any_holds, Conditions, no_conditions, one_condition, Commands, no_commands, stops, returns, acts, chooses, Branches, no_branches, else_branch, test_branch}
use Rattle.sieve_code.specs.Walk.{Walk, at_end, by_stop, by_return, cut_off, asked, acted, all_walk, any_walk, branches_walk, code_walk, condition_walk, gone, commands_walk, script_walk}
use Rattle.sieve_code.specs.Operation.{Operation}
use Rattle.sieve_limits.specs.Limits.{include_depth}
use Rattle.sieve_code.specs.Compiles.{Compiles}
use Rattle.sieve_delivery.specs.Delivery.{Arrival, Delivery, inside}
use Rattle.sieve_run.specs.Library.{HasCode, Lookup, missing, invalid, present}
use Rattle.sieve_run.specs.Perform.{answers_after, answers_of, chosen_answers, do_gone, do_met, end_of, perform}
use Rattle.script_names.specs.declared.name.ScriptName.{ScriptName}
use Rattle.sieve_run.specs.view.Include.{enters}
use Rattle.sieve_run.specs.view.Step.{doing}
use Rattle.sieve_delivery.specs.Ending.{Ending, goes_on, returned, stopped, failed}
use Rattle.sieve_run.specs.Run.{Answer, also, or_else, act_of, and_then, answer_of, begun, chosen, decide, decide_all, decide_any, delivery_to, entering, exec, exec_branches, resumed, running, verdict_at, verdict_after, with_found_script}
use Rattle.sieve_delivery.specs.State.{RunState}

module _ (ask : Ask → RunState → Answer) (act : Leaf → ℕ → RunState → Ending) where
  -- TESTS

  other_way : (truth : Bool) (f g : RunState → Ending) (s : RunState) → chosen truth f g s ≡ chosen (not truth) g f s
  other_way true f g s = refl
  other_way false f g s = refl

  -- Let `first` be `f` or `g`, by the truth of `second`. A choice of `first` by another truth is a
  -- choice of `f` or `g` by both truths together.
  both_by : (second : RunState → Answer) (first f g : RunState → Ending) → ((s : RunState) → first s ≡ chosen (second s).truth f g (second s).state) → (truth : Bool) (s : RunState) → chosen truth first g s ≡ chosen (also truth second s).truth f g (also truth second s).state
  both_by second first f g is true s = is s
  both_by second first f g is false s = refl

  either_by : (second : RunState → Answer) (first f g : RunState → Ending) → ((s : RunState) → first s ≡ chosen (second s).truth f g (second s).state) → (truth : Bool) (s : RunState) → chosen truth f first s ≡ chosen (or_else truth second s).truth f g (or_else truth second s).state
  either_by second first f g is true s = refl
  either_by second first f g is false s = is s

  mutual
    unfolding perform condition_walk all_walk any_walk decide decide_all decide_any

    by_condition : (c : Condition) (so otherwise : Walk) (s : RunState) → perform ask act (condition_walk c so otherwise) s ≡ chosen (decide ask c s).truth (perform ask act so) (perform ask act otherwise) (decide ask c s).state
    by_condition always so otherwise s = refl
    by_condition never so otherwise s = refl
    by_condition (asks a) so otherwise s = refl
    by_condition (negated c) so otherwise s =
        by_condition c otherwise so s ∙ other_way (decide ask c s).truth (perform ask act otherwise) (perform ask act so) (decide ask c s).state
    by_condition (all_hold cs) so otherwise s = by_all cs so otherwise s
    by_condition (any_holds cs) so otherwise s = by_any cs so otherwise s

    by_all : (cs : Conditions) (so otherwise : Walk) (s : RunState) → perform ask act (all_walk cs so otherwise) s ≡ chosen (decide_all ask cs s).truth (perform ask act so) (perform ask act otherwise) (decide_all ask cs s).state
    by_all no_conditions so otherwise s = refl
    by_all (one_condition c cs) so otherwise s =
        by_condition c (all_walk cs so otherwise) otherwise s
        ∙ both_by (decide_all ask cs) (perform ask act (all_walk cs so otherwise)) (perform ask act so) (perform ask act otherwise) (by_all cs so otherwise) (decide ask c s).truth (decide ask c s).state

    by_any : (cs : Conditions) (so otherwise : Walk) (s : RunState) → perform ask act (any_walk cs so otherwise) s ≡ chosen (decide_any ask cs s).truth (perform ask act so) (perform ask act otherwise) (decide_any ask cs s).state
    by_any no_conditions so otherwise s = refl
    by_any (one_condition c cs) so otherwise s =
        by_condition c so (any_walk cs so otherwise) s
        ∙ either_by (decide_any ask cs) (perform ask act (any_walk cs so otherwise)) (perform ask act so) (perform ask act otherwise) (by_any cs so otherwise) (decide ask c s).truth (decide ask c s).state

  -- COMMANDS

  in_turn : (e : Ending) (f g h : RunState → Ending) → ((s : RunState) → h s ≡ and_then (f s) g) → and_then e h ≡ and_then (and_then e f) g
  in_turn (goes_on s) f g h is = is s
  in_turn (returned s) f g h is = refl
  in_turn (stopped s) f g h is = refl
  in_turn (failed error s) f g h is = refl

  choice_by : (f g block otherwise h : RunState → Ending) → ((s : RunState) → f s ≡ and_then (block s) h) → ((s : RunState) → g s ≡ and_then (otherwise s) h) → (truth : Bool) (s : RunState) → chosen truth f g s ≡ and_then (chosen truth block otherwise s) h
  choice_by f g block otherwise h then_is else_is true s = then_is s
  choice_by f g block otherwise h then_is else_is false s = else_is s

  mutual
    unfolding perform commands_walk branches_walk exec exec_branches

    by_commands : (c : Commands) (next : Walk) (s : RunState) → perform ask act (commands_walk c next) s ≡ and_then (exec ask act c s) (perform ask act next)
    by_commands no_commands next s = refl
    by_commands (stops rest) next s = refl
    by_commands (returns rest) next s = refl
    by_commands (acts leaf line rest) next s =
        in_turn (act leaf line s) (exec ask act rest) (perform ask act next) (perform ask act (commands_walk rest next)) (by_commands rest next)
    by_commands (chooses branches rest) next s =
        by_branches branches (commands_walk rest next) s
        ∙ in_turn (exec_branches ask act branches s) (exec ask act rest) (perform ask act next) (perform ask act (commands_walk rest next)) (by_commands rest next)

    by_branches : (bs : Branches) (next : Walk) (s : RunState) → perform ask act (branches_walk bs next) s ≡ and_then (exec_branches ask act bs s) (perform ask act next)
    by_branches no_branches next s = refl
    by_branches (else_branch inner) next s = by_commands inner next s
    by_branches (test_branch condition inner others) next s =
        by_condition condition (commands_walk inner next) (branches_walk others next) s
        ∙ choice_by (perform ask act (commands_walk inner next)) (perform ask act (branches_walk others next)) (exec ask act inner) (exec_branches ask act others) (perform ask act next) (by_commands inner next) (by_branches others next) (decide ask condition s).truth (decide ask condition s).state

  nothing_after : (e : Ending) → and_then e (perform ask act at_end) ≡ e
  unfolding perform
  nothing_after (goes_on s) = refl
  nothing_after (returned s) = refl
  nothing_after (stopped s) = refl
  nothing_after (failed error s) = refl

  by_truth : (a : Ask) (so otherwise : Walk) (s : RunState) → ((t : RunState) → perform ask act so t ≡ do_gone ask act (gone so (answers_of ask act so t)) t) → ((t : RunState) → perform ask act otherwise t ≡ do_gone ask act (gone otherwise (answers_of ask act otherwise t)) t) → (truth : Bool) →
      chosen truth (perform ask act so) (perform ask act otherwise) (ask a s).state
      ≡ do_gone ask act (gone (asked a so otherwise) (truth ∷ chosen_answers truth (answers_of ask act so) (answers_of ask act otherwise) (ask a s).state)) s
  unfolding gone do_met
  by_truth a so otherwise s first second true = first (ask a s).state
  by_truth a so otherwise s first second false = second (ask a s).state

  by_leaf : (leaf : Leaf) (line : ℕ) (next : Walk) (s : RunState) → ((t : RunState) → perform ask act next t ≡ do_gone ask act (gone next (answers_of ask act next t)) t) → (e : Ending) →
      and_then e (perform ask act next) ≡ and_then (and_then e (do_met ask act (gone next (answers_after e (answers_of ask act next))).met)) (end_of (gone next (answers_after e (answers_of ask act next))).ending)
  by_leaf leaf line next s after (goes_on t) = after t
  by_leaf leaf line next s after (returned t) = refl
  by_leaf leaf line next s after (stopped t) = refl
  by_leaf leaf line next s after (failed error t) = refl

  -- doing a walk is doing what is met on it with the truths of its tests as answers
  does_gone : (w : Walk) (s : RunState) → perform ask act w s ≡ do_gone ask act (gone w (answers_of ask act w s)) s
  unfolding perform gone answers_of do_met
  does_gone at_end s = refl
  does_gone by_stop s = refl
  does_gone by_return s = refl
  does_gone cut_off s = refl
  does_gone (asked a so otherwise) s = by_truth a so otherwise s (does_gone so) (does_gone otherwise) (ask a s).truth
  does_gone (acted leaf line next) s = by_leaf leaf line next s (does_gone next) (act leaf line s)

  pub does_walk : (program : Commands) (s : RunState) → exec ask act program s ≡ perform ask act (script_walk program) s
  does_walk program s = sym (by_commands program at_end s ∙ nothing_after (exec ask act program s))

  pub does_met : (program : Commands) (s : RunState) → exec ask act program s ≡ do_gone ask act (gone (script_walk program) (answers_of ask act (script_walk program) s)) s
  does_met program s = does_walk program s ∙ does_gone (script_walk program) s

pub ruleset walking = (does_walk, does_met)

-- doing the code of the running script is running the script
pub by_running_code : (find : ScriptName → Lookup) (depth : ℕ) (delivery : Delivery) (program : Commands) (ops : List Operation) (s : RunState) → Compiles program ops → doing (act_of find depth delivery) delivery (code_walk ops (length ops)) s ≡ running find depth delivery program s
by_running_code find depth delivery program ops s has =
    ap (λ w. doing (act_of find depth delivery) delivery w s) has.does ∙ sym (does_walk (answer_of delivery) (act_of find depth delivery) program s)

-- the verdict of doing the code of the main script is the verdict on that script
pub by_code : (find : ScriptName → Lookup) (arrival : Arrival) (main : ScriptName) (lookup : Lookup) (ops : List Operation) → HasCode lookup ops
    → verdict_after (doing (act_of find include_depth (delivery_to arrival main)) (delivery_to arrival main) (code_walk ops (length ops)) (begun main)) ≡ verdict_at find arrival main lookup
by_code find arrival main missing ops has = absurd has
by_code find arrival main invalid ops has = absurd has
by_code find arrival main (present program) ops has = ap verdict_after (by_running_code find include_depth (delivery_to arrival main) program ops (begun main) has)

-- entering a script by its code is what an include does with the script that is found
pub by_found_code : (find : ScriptName → Lookup) (depth : ℕ) (delivery : Delivery) (name : ScriptName) (optional : Bool) (line : ℕ) (lookup : Lookup) (ops : List Operation) (s : RunState) → HasCode lookup ops
    → enters find depth delivery name ops s ≡ with_found_script delivery optional line (λ program. running find depth (inside name delivery) program) name lookup s
by_found_code find depth delivery name optional line missing ops s has = absurd has
by_found_code find depth delivery name optional line invalid ops s has = absurd has
by_found_code find depth delivery name optional line (present program) ops s has = ap (resumed s.values) (by_running_code find depth (inside name delivery) program ops (entering name s) has)
