-- The effect of single operations on the rest of a run.
use Rattle.std.proofs.Common.{◌≡◌, ℕ, ◌+◌, ◌<◌, ◌≤◌, ◌-◌, zero, suc, Bool, true, false, Option, Some, None, Result, IfOk, List, length, refl, ap, sym, ◌∙◌, arith, subst}
use Rattle.std.proofs.lemmas.Option.{slice_get_past}
use Rattle.std.proofs.lemmas.Result.{IfOk-at_ok, IfOk-weaker}
use Rattle.std.specs.Prelude.{slice_get}
use Rattle.sieve_script.specs.Reading.{Ask, Leaf}
use Rattle.sieve_code.specs.Operation.{Operation, test_op, act_op, stop_op, return_op}
use Rattle.sieve_code.specs.Walk as walk
use Rattle.sieve_code.specs.Walk.{Walk, at_limit, code_walk, walk_from}
use Rattle.sieve_delivery.specs.Delivery.{Delivery}
use Rattle.sieve_conditions.specs.Matching.{after_test, truth_of}
use Rattle.sieve_run.specs.Perform.{perform}
use Rattle.sieve_delivery.specs.Ending.{goes_on}
use Rattle.sieve_run.specs.Run.{and_then, chosen}
use Rattle.sieve_delivery.specs.State.{RunState}
use Rattle.sieve_delivery.specs.declared.ending.Ending as endings
use Rattle.sieve_delivery.specs.declared.ending.Ending.TheVariants as ending
use Rattle.sieve_delivery.specs.declared.ending.Ending.TheVariants.{GoesOn}
use Rattle.sieve_run.specs.declared.turn.Step.{Step}
use Rattle.sieve_run.specs.declared.turn.Step.TheVariants.{Next, Ended}
use Rattle.sieve_delivery.specs.view.Ending.{ending_by}
use Rattle.sieve_run.specs.view.Step.{step_after, Acts, StepFollows, StepsTo, doing, doing_after}

left_over : {n turn : ℕ} → n ≤ turn → n - turn ≡ 0
left_over all = omega arith

one_more : {n turn : ℕ} → turn < n → n - turn ≡ suc (n - (turn + 1))
one_more below = omega arith

module _ (act : Acts) (delivery : Delivery) where
  -- going on at the place after an operation is going on at the next place, with the same register
  on_after : (go : ℕ → Bool → Walk) (truth : Bool) (after place : ℕ) (s : RunState) → after ≡ place + 1 → doing act delivery (go (place + 1) truth) s ≡ doing act delivery (go after truth) s
  on_after go truth after place s is = ap (λ b. doing act delivery (go b truth) s) (sym is)

  by_answer : (truth : Bool) (f : Bool → Walk) (s : RunState) → chosen truth (doing act delivery (f true)) (doing act delivery (f false)) s ≡ doing act delivery (f truth) s
  by_answer true f s = refl
  by_answer false f s = refl

  -- After a test that gives a truth and a state, the run goes on at the place after it. The truth
  -- is in the register.
  pub asks_steps : (ask : Ask) (truth : Bool) (after : ℕ) (register : Bool) (old new : RunState) → truth ≡ truth_of delivery old ask → new ≡ after_test delivery ask old → StepsTo act delivery (test_op ask) after register old (Next after truth) new
  unfolding perform
  asks_steps ask truth after register old new is moves = record {
    before = λ place go at.
        by_answer (truth_of delivery old ask) (go (place + 1)) (after_test delivery ask old)
        ∙ sym (ap (λ t. doing act delivery (go (place + 1) t) (after_test delivery ask old)) is)
        ∙ sym (ap (λ s. doing act delivery (go (place + 1) truth) s) moves)
        ∙ on_after go truth after place new at;
  }

  -- the rest of a run after a command, by how the command ended
  by_ending : (ending : endings.Ending) (go : ℕ → Bool → Walk) (after place : ℕ) (register : Bool) (new : RunState) → after ≡ place + 1 → and_then (ending_by ending new) (doing act delivery (go (place + 1) register)) ≡ doing_after act delivery go (step_after ending after register) new
  by_ending GoesOn go after place register new at = on_after go register after place new at
  by_ending ending.Returned go after place register new at = refl
  by_ending ending.Stopped go after place register new at = refl
  by_ending (ending.Failed error) go after place register new at = refl

  pub acts_steps : (leaf : Leaf) (line after : ℕ) (register : Bool) (ending : endings.Ending) (step : Step) (old new : RunState) → step ≡ step_after ending after register → ending_by ending new ≡ act leaf line old → StepsTo act delivery (act_op leaf line) after register old step new
  unfolding perform
  acts_steps leaf line after register ending step old new to does = record {
    before = λ place go at.
        sym (ap (λ e. and_then e (doing act delivery (go (place + 1) register))) does)
        ∙ by_ending ending go after place register new at
        ∙ sym (ap (λ s. doing_after act delivery go s new) to);
  }

  -- WHERE A CALL MAY RUN OUT OF MEMORY

  pub asks_follow : {E : Type 0} (ask : Ask) (op : Operation) (called : Result Bool E) (step : Result Step E) (after : ℕ) (register : Bool) (old new : RunState) → op ≡ test_op ask
      → IfOk called (λ truth. truth ≡ truth_of delivery old ask) → IfOk called (λ _. new ≡ after_test delivery ask old) → IfOk step (StepFollows called (λ truth. Next after truth))
      → IfOk step (λ taken. StepsTo act delivery op after register old taken new)
  asks_follow ask op called step after register old new is truth moves follows = IfOk-weaker step (StepFollows called (λ truth. Next after truth)) _
      (λ taken f. subst (λ o. StepsTo act delivery o after register old taken new) (sym is)
      (subst (λ r. StepsTo act delivery (test_op ask) after register old r new) (sym f.2)
      (asks_steps ask f.0 after register old new (IfOk-at_ok (λ t. t ≡ truth_of delivery old ask) f.1 truth) (IfOk-at_ok (λ _. new ≡ after_test delivery ask old) f.1 moves))))
      follows

  pub acts_follow : {E : Type 0} (leaf : Leaf) (line : ℕ) (op : Operation) (called : Result endings.Ending E) (step : Result Step E) (after : ℕ) (register : Bool) (old new : RunState) → op ≡ act_op leaf line
      → IfOk called (λ ending. ending_by ending new ≡ act leaf line old) → IfOk step (StepFollows called (λ ending. step_after ending after register))
      → IfOk step (λ taken. StepsTo act delivery op after register old taken new)
  acts_follow leaf line op called step after register old new is does follows = IfOk-weaker step (StepFollows called (λ ending. step_after ending after register)) _
      (λ taken f. subst (λ o. StepsTo act delivery o after register old taken new) (sym is)
      (acts_steps leaf line after register f.0 taken old new f.2 (IfOk-at_ok (λ ending. ending_by ending new ≡ act leaf line old) f.1 does)))
      follows

  pub stop_steps : (after : ℕ) (register : Bool) (s : RunState) → StepsTo act delivery stop_op after register s (Ended ending.Stopped) s
  unfolding perform
  stop_steps after register s = record { before = λ place go is. refl }

  pub return_steps : (after : ℕ) (register : Bool) (s : RunState) → StepsTo act delivery return_op after register s (Ended ending.Returned) s
  unfolding perform
  return_steps after register s = record { before = λ place go is. refl }

  -- CODE FROM A PLACE ON

  module _ (ops : List Operation) where
    pub begins : (s : RunState) → doing act delivery (walk_from ops (length ops - 0) 0 false) s ≡ doing act delivery (code_walk ops (length ops)) s
    begins s = ap (λ n. doing act delivery (walk_from ops n 0 false) s) (omega arith)

    at_none : (n place : ℕ) (register : Bool) (s : RunState) → slice_get ops place ≡ None → doing act delivery (walk_from ops n place register) s ≡ goes_on s
    unfolding walk_from perform
    at_none zero place register s is = ap (λ o. doing act delivery (at_limit o) s) is
    at_none (suc n) place register s is = ap (λ o. doing act delivery (walk.step (walk_from ops n) o place register) s) is

    -- the walk ends after the last operation
    pub past_end : (n place : ℕ) (register : Bool) (s : RunState) → length ops ≤ place → doing act delivery (walk_from ops n place register) s ≡ goes_on s
    past_end n place register s past = at_none n place register s (slice_get_past ops place past)

    by_limit : (o : Option Operation) (s : RunState) → doing act delivery (at_limit o) s ≡ goes_on s
    unfolding perform
    by_limit None s = refl
    by_limit (Some op) s = refl

    at_zero : (place : ℕ) (register : Bool) (s : RunState) → doing act delivery (walk_from ops 0 place register) s ≡ goes_on s
    unfolding walk_from
    at_zero place register s = by_limit (slice_get ops place) s

    -- without a further turn nothing more is done
    pub runs_out : (turn place : ℕ) (register : Bool) (s : RunState) → length ops ≤ turn → doing act delivery (walk_from ops (length ops - turn) place register) s ≡ goes_on s
    runs_out turn place register s all = ap (λ n. doing act delivery (walk_from ops n place register) s) (left_over all) ∙ at_zero place register s

    more : (n : ℕ) (place : ℕ) (register : Bool) (op : Operation) (old : RunState) → slice_get ops place ≡ Some op → doing act delivery (walk_from ops (suc n) place register) old ≡ doing act delivery (walk.step (walk_from ops n) (Some op) place register) old
    unfolding walk_from
    more n place register op old is = ap (λ o. doing act delivery (walk.step (walk_from ops n) o place register) old) is

    -- one turn makes one step of the walk
    pub turns : (turn place : ℕ) (register : Bool) (op : Operation) (old : RunState) (step : Step) (new : RunState) → turn < length ops → slice_get ops place ≡ Some op → StepsTo act delivery op (place + 1) register old step new →
        doing act delivery (walk_from ops (length ops - turn) place register) old ≡ doing_after act delivery (walk_from ops (length ops - (turn + 1))) step new
    turns turn place register op old step new below is does =
        ap (λ n. doing act delivery (walk_from ops n place register) old) (one_more below)
        ∙ more (length ops - (turn + 1)) place register op old is
        ∙ does.before place (walk_from ops (length ops - (turn + 1))) refl
