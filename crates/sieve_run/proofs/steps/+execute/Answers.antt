use Rattle.std.proofs.Common.{◌≡◌, ◌&&◌, ◌∙◌, ◌<◌, ◌≤◌, ◌+◌, ◌-◌, true, false, IfOk, List, length, map, nat_lt, sym, ap, subst, arith, Bor}
use Rattle.std.proofs.lemmas.Bool.Decides.{nat_tests}
use Rattle.std.proofs.lemmas.Result.{IfOk-weaker}
use Rattle.sieve_code.specs.Operation.{test_op}
use Rattle.sieve_code.specs.Pool.{ask_in, leaf_at}
use Rattle.sieve_code.specs.Walk.{code_walk, walk_from}
use Rattle.sieve_code.specs.view.Code.{op_of, ops_of, pool_of}
use Rattle.sieve_limits.specs.Limits.{include_limit}
use Rattle.sieve_run.specs.Library.{Lookup, found_at, library_of}
use Rattle.sieve_run.specs.Run.{act_of, included, is_script}
use Rattle.sieve_delivery.specs.declared.ending.Ending as endings
use Rattle.sieve_delivery.specs.declared.ending.Ending.TheVariants.{Failed}
use Rattle.script_names.specs.declared.name.ScriptName.{ScriptName}
use Rattle.sieve_delivery.specs.declared.error.ErrorKind.TheVariants.{IncludeCount, IncludeDepth, RecursiveInclude}
use Rattle.sieve_delivery.specs.Delivery.{Delivery}
use Rattle.sieve_delivery.specs.view.Delivery.{delivery_as}
use Rattle.sieve_delivery.specs.view.Ending.{ending_by}
use Rattle.sieve_run.specs.view.Found.{FoundAs}
use Rattle.sieve_run.specs.view.Include.{looks_up, there_as}
use Rattle.sieve_delivery.specs.view.State.{state_of}
use Rattle.sieve_run.specs.view.Step.{doing, doing_after}
use Rattle.sieve_variables.specs.Value.{with_own}
use Rattle.sieve_run.proofs.Includes.{enters_by, fails_deep, fails_many, fails_running, looks_included, looks_present, not_entered, not_once, skips_included}
use Rattle.sieve_run.proofs.Stepping.{acts_follow, asks_follow, past_end, runs_out, turns}
use Rattle.sieve_run.proofs.steps.+execute.Goals as goal
use Rattle.sieve_run.proofs.steps.+execute.Goals.{include-else-inclusion-via-then-inclusion+else-is_script, include-else-inclusion-via-else-inclusion}

pub carry_out-returns-in-Test-clause-step : goal.carry_out-returns-in-Test-clause-step
carry_out-returns-in-Test-clause-step g t c =
    let find : ScriptName → Lookup = library_of (g.L.Library.profile c.args.running.now.lib.now) (g.L.Library.texts c.args.running.now.lib.now) in
    let d = delivery_as c.args.running.now.delivery.now in
    let code = c.args.running.now.code.now in
    asks_follow (act_of find c.args.running.now.depth d) d (ask_in (pool_of code) c.ask-asked.result) _ _ _ _ _ _ _
    (ap (op_of code) c.in-Test.is ∙ ap test_op (sym c.ask-asked.ensures)) c.ask.ensures.truth c.ask.ensures.after c.tested.ensures

pub carry_out-returns-in-Act-clause-step : goal.carry_out-returns-in-Act-clause-step
carry_out-returns-in-Act-clause-step g t c =
    let find : ScriptName → Lookup = library_of (g.L.Library.profile c.args.running.now.lib.now) (g.L.Library.texts c.args.running.now.lib.now) in
    let d = delivery_as c.args.running.now.delivery.now in
    let code = c.args.running.now.code.now in
    acts_follow (act_of find c.args.running.now.depth d) d (leaf_at (pool_of code) c.in-Act.leaf) c.in-Act.line _ _ _ _ _ _ _
    (ap (op_of code) c.in-Act.is) c.act_at.ensures.ending c.acted.ensures

pub execute_inside-returns-clause-ending : goal.execute_inside-returns-clause-ending
execute_inside-returns-clause-ending g t c =
    let find : ScriptName → Lookup = library_of (g.L.Library.profile c.args.running.now.lib.now) (g.L.Library.texts c.args.running.now.lib.now) in
    let d = delivery_as c.args.running.now.delivery.now in
    let ops = ops_of c.args.code.now in
    subst (λ (inner : Delivery). IfOk c.execute.result (λ (ending : endings.Ending). doing (act_of find c.args.running.now.depth inner) inner (code_walk ops (length ops)) (state_of c.args.state.now) ≡ ending_by ending (state_of c.execute.new.state)))
    (ap (λ (names : List ScriptName). record d { script = c.args.name.now; including = names }) (ap (map (λ (name : Bor ScriptName). name.now)) c.as_slice.ensures.value ∙ c.in_ok-including.ensures))
    c.execute.ensures.ending

pub enter-returns-clause-ending : goal.enter-returns-clause-ending
enter-returns-clause-ending g t c =
    let find : ScriptName → Lookup = library_of (g.L.Library.profile c.args.running.now.lib.now) (g.L.Library.texts c.args.running.now.lib.now) in
    let d = delivery_as c.args.running.now.delivery.now in
    let s = state_of c.args.state.now in
    let ended = state_of c.execute_inside.new.state in
    enters_by find c.args.running.now.depth d c.args.name.now (ops_of c.args.code.now) s _ ended _ c.in_ok-ending.ending c.resumed.result
    c.in_ok-own.ensures.state
    c.in_ok-ending.ensures.ending
    c.resumed.ensures
    (ap (λ values. record ended { values = values }) (c.resume.ensures ∙ ap (λ own. with_own own ended.values) c.in_ok-own.ensures.own))

pub execute-returns-then-place-len-clause-ending : goal.execute-returns-then-place-len-clause-ending
execute-returns-then-place-len-clause-ending g t c =
    let d = delivery_as c.args.running.now.delivery.now in
    let act = act_of (library_of (g.L.Library.profile c.args.running.now.lib.now) (g.L.Library.texts c.args.running.now.lib.now)) c.args.running.now.depth d in
    let ops = ops_of c.args.running.now.code.now in
    sym c.loop-turn.invariant.1
    ∙ past_end act d ops (length ops - c.loop-turn._turn) c.loop-turn.place c.loop-turn.register (state_of c.loop-turn.state) (subst (λ n. n ≤ c.loop-turn.place) c.len.ensures c.if-place-len.true)

pub execute-returns-in-Ended-clause-ending : goal.execute-returns-in-Ended-clause-ending
execute-returns-in-Ended-clause-ending g t c =
    let d = delivery_as c.args.running.now.delivery.now in
    let act = act_of (library_of (g.L.Library.profile c.args.running.now.lib.now) (g.L.Library.texts c.args.running.now.lib.now)) c.args.running.now.depth d in
    let ops = ops_of c.args.running.now.code.now in
    sym c.loop-turn.invariant.1
    ∙ turns act d ops c.loop-turn._turn c.loop-turn.place c.loop-turn.register (op_of c.args.running.now.code.now c.op.result) (state_of c.loop-turn.state) c.in_ok-next.field-0 (state_of c.carry_out.new.state) (subst (λ n. c.loop-turn._turn < n) c.len-turn-end.ensures c.loop-turn-test.true) c.op.ensures c.in_ok-next.ensures.step
    ∙ ap (λ step. doing_after act d (walk_from ops (length ops - (c.loop-turn._turn + 1))) step (state_of c.carry_out.new.state)) c.in-Ended.is

pub execute-loop-turn-preserved : goal.execute-loop-turn-preserved
execute-loop-turn-preserved g t c =
    let d = delivery_as c.args.running.now.delivery.now in
    let act = act_of (library_of (g.L.Library.profile c.args.running.now.lib.now) (g.L.Library.texts c.args.running.now.lib.now)) c.args.running.now.depth d in
    let ops = ops_of c.args.running.now.code.now in (
      c.carry_out.ensures.arrival ∙ c.loop-turn.invariant.0,
      sym (turns act d ops c.loop-turn._turn c.loop-turn.place c.loop-turn.register (op_of c.args.running.now.code.now c.op.result) (state_of c.loop-turn.state) c.in_ok-next.field-0 (state_of c.carry_out.new.state) (subst (λ n. c.loop-turn._turn < n) c.len-turn-end.ensures c.loop-turn-test.true) c.op.ensures c.in_ok-next.ensures.step
          ∙ ap (λ step. doing_after act d (walk_from ops (length ops - (c.loop-turn._turn + 1))) step (state_of c.carry_out.new.state)) c.in-Next.is)
          ∙ c.loop-turn.invariant.1,
    )

pub execute-returns-clause-ending : goal.execute-returns-clause-ending
execute-returns-clause-ending g t c =
    let d = delivery_as c.args.running.now.delivery.now in
    let act = act_of (library_of (g.L.Library.profile c.args.running.now.lib.now) (g.L.Library.texts c.args.running.now.lib.now)) c.args.running.now.depth d in
    sym c.loop-turn.invariant.1
    ∙ runs_out act d (ops_of c.args.running.now.code.now) c.loop-turn._turn c.loop-turn.place c.loop-turn.register (state_of c.loop-turn.state) (subst (λ n. n ≤ c.loop-turn._turn) c.len-turn-end.ensures c.loop-turn-test.false)

pub include-returns-then-is_script-clause-ending : goal.include-returns-then-is_script-clause-ending
include-returns-then-is_script-clause-ending g t c =
    let find : ScriptName → Lookup = library_of (g.L.Library.profile c.args.running.now.lib.now) (g.L.Library.texts c.args.running.now.lib.now) in
    skips_included find (delivery_as c.args.running.now.delivery.now) c.args.name.now c.args.inclusion.once c.args.inclusion.optional c.args.inclusion.line (state_of c.args.state.now) c.args.running.now.depth c.if-inclusion.true
    (sym (c.is_script.ensures ∙ ap (is_script c.args.name.now) c.as_slice.ensures.value) ∙ c.if-is_script.true)

pub include-returns-then-is_running-clause-ending : goal.include-returns-then-is_running-clause-ending
include-returns-then-is_running-clause-ending g t c =
    let find : ScriptName → Lookup = library_of (g.L.Library.profile c.args.running.now.lib.now) (g.L.Library.texts c.args.running.now.lib.now) in
    let d = delivery_as c.args.running.now.delivery.now in
    let s = state_of c.args.state.now in
    let first : (c.args.inclusion.once && is_script c.args.name.now s.entered) ≡ false = elim c.else-inclusion.branch [
      | include-else-inclusion-via-then-inclusion+else-is_script w ↦ not_entered c.args.inclusion.once w.is_script.result c.args.name.now s.entered w.as_slice.result.now w.as_slice.ensures.value w.is_script.ensures w.if-is_script.false
      | include-else-inclusion-via-else-inclusion w ↦ not_once c.args.inclusion.once c.args.name.now s.entered w.if-inclusion.false
    ] in
    IfOk-weaker c.fail.result (λ (ending : endings.Ending). ending ≡ Failed (record { script = d.script; line = c.args.inclusion.line; kind = RecursiveInclude }))
    (λ (ending : endings.Ending). ending_by ending s ≡ included find c.args.running.now.depth d c.args.name.now c.args.inclusion.once c.args.inclusion.optional c.args.inclusion.line s)
    (λ ending is. ap (λ f. ending_by f s) is ∙ fails_running find d c.args.name.now c.args.inclusion.once c.args.inclusion.optional c.args.inclusion.line s c.args.running.now.depth first (sym c.is_running.ensures ∙ c.if-is_running.true))
    c.fail.ensures

pub include-returns-then-running-eq0-clause-ending : goal.include-returns-then-running-eq0-clause-ending
include-returns-then-running-eq0-clause-ending g t c =
    let find : ScriptName → Lookup = library_of (g.L.Library.profile c.args.running.now.lib.now) (g.L.Library.texts c.args.running.now.lib.now) in
    let d = delivery_as c.args.running.now.delivery.now in
    let s = state_of c.args.state.now in
    let first : (c.args.inclusion.once && is_script c.args.name.now s.entered) ≡ false = elim c.else-inclusion.branch [
      | include-else-inclusion-via-then-inclusion+else-is_script w ↦ not_entered c.args.inclusion.once w.is_script.result c.args.name.now s.entered w.as_slice.result.now w.as_slice.ensures.value w.is_script.ensures w.if-is_script.false
      | include-else-inclusion-via-else-inclusion w ↦ not_once c.args.inclusion.once c.args.name.now s.entered w.if-inclusion.false
    ] in
    IfOk-weaker c.fail-then-running-eq0.result (λ (ending : endings.Ending). ending ≡ Failed (record { script = d.script; line = c.args.inclusion.line; kind = IncludeDepth }))
    (λ (ending : endings.Ending). ending_by ending s ≡ included find c.args.running.now.depth d c.args.name.now c.args.inclusion.once c.args.inclusion.optional c.args.inclusion.line s)
    (λ ending is. ap (λ f. ending_by f s) is ∙ fails_deep find d c.args.name.now c.args.inclusion.once c.args.inclusion.optional c.args.inclusion.line s c.args.running.now.depth first (sym c.is_running.ensures ∙ c.if-is_running.false) c.if-running-eq0.true)
    c.fail-then-running-eq0.ensures

pub include-returns-then-len-gt-MAX_INCLUDES-clause-ending : goal.include-returns-then-len-gt-MAX_INCLUDES-clause-ending
include-returns-then-len-gt-MAX_INCLUDES-clause-ending g t c =
    let find : ScriptName → Lookup = library_of (g.L.Library.profile c.args.running.now.lib.now) (g.L.Library.texts c.args.running.now.lib.now) in
    let d = delivery_as c.args.running.now.delivery.now in
    let s = state_of c.args.state.now in
    let first : (c.args.inclusion.once && is_script c.args.name.now s.entered) ≡ false = elim c.else-inclusion.branch [
      | include-else-inclusion-via-then-inclusion+else-is_script w ↦ not_entered c.args.inclusion.once w.is_script.result c.args.name.now s.entered w.as_slice.result.now w.as_slice.ensures.value w.is_script.ensures w.if-is_script.false
      | include-else-inclusion-via-else-inclusion w ↦ not_once c.args.inclusion.once c.args.name.now s.entered w.if-inclusion.false
    ] in
    let many : nat_lt include_limit (length s.entered) ≡ true = grind (arith, nat_tests, c.len.ensures, c.if-len-gt-MAX_INCLUDES.true) in
    IfOk-weaker c.fail-then-len-gt-MAX_INCLUDES.result (λ (ending : endings.Ending). ending ≡ Failed (record { script = d.script; line = c.args.inclusion.line; kind = IncludeCount }))
    (λ (ending : endings.Ending). ending_by ending s ≡ included find c.args.running.now.depth d c.args.name.now c.args.inclusion.once c.args.inclusion.optional c.args.inclusion.line s)
    (λ ending is. ap (λ f. ending_by f s) is ∙ fails_many find d c.args.name.now c.args.inclusion.once c.args.inclusion.optional c.args.inclusion.line s c.args.running.now.depth first (sym c.is_running.ensures ∙ c.if-is_running.false) c.if-running-eq0.false many)
    c.fail-then-len-gt-MAX_INCLUDES.ensures

pub include-returns-clause-ending : goal.include-returns-clause-ending
include-returns-clause-ending g t c =
    let find : ScriptName → Lookup = library_of (g.L.Library.profile c.args.running.now.lib.now) (g.L.Library.texts c.args.running.now.lib.now) in
    let d = delivery_as c.args.running.now.delivery.now in
    let s = state_of c.args.state.now in
    let first : (c.args.inclusion.once && is_script c.args.name.now s.entered) ≡ false = elim c.else-inclusion.branch [
      | include-else-inclusion-via-then-inclusion+else-is_script w ↦ not_entered c.args.inclusion.once w.is_script.result c.args.name.now s.entered w.as_slice.result.now w.as_slice.ensures.value w.is_script.ensures w.if-is_script.false
      | include-else-inclusion-via-else-inclusion w ↦ not_once c.args.inclusion.once c.args.name.now s.entered w.if-inclusion.false
    ] in
    let few : nat_lt include_limit (length s.entered) ≡ false = grind (arith, nat_tests, c.len.ensures, c.if-len-gt-MAX_INCLUDES.false) in
    IfOk-weaker c.look_up.result (λ (ending : endings.Ending). ending_by ending (state_of c.look_up.new.state) ≡ looks_up find (c.args.running.now.depth - 1) d c.args.name.now c.args.inclusion.optional c.args.inclusion.line s)
    (λ (ending : endings.Ending). ending_by ending (state_of c.look_up.new.state) ≡ included find c.args.running.now.depth d c.args.name.now c.args.inclusion.once c.args.inclusion.optional c.args.inclusion.line s)
    (λ ending is. is ∙ looks_included find d c.args.name.now c.args.inclusion.once c.args.inclusion.optional c.args.inclusion.line s c.args.running.now.depth first (sym c.is_running.ensures ∙ c.if-is_running.false) c.if-running-eq0.false few)
    c.look_up.ensures.ending

pub look_up-returns-in-Present-clause-ending : goal.look_up-returns-in-Present-clause-ending
look_up-returns-in-Present-clause-ending g t c =
    let find : ScriptName → Lookup = library_of (g.L.Library.profile c.args.running.now.lib.now) (g.L.Library.texts c.args.running.now.lib.now) in
    let d = delivery_as c.args.running.now.delivery.now in
    let s = state_of c.args.state.now in
    let ops = ops_of c.in-Present.code.now in
    let has = subst (λ found. FoundAs found (found_at find c.args.name.now)) c.in-Present.is c.find-found.ensures in
    let there : c.is_there.result ≡ true = c.is_there.ensures ∙ ap there_as c.in-Present.is in
    IfOk-weaker c.enter.result _
    (λ (ending : endings.Ending). ending_by ending (state_of c.enter.new.state) ≡ looks_up find c.args.running.now.depth d c.args.name.now c.args.inclusion.optional c.args.inclusion.line s)
    (λ ending is. is ∙ looks_present find c.args.running.now.depth d c.args.name.now c.args.inclusion.optional c.args.inclusion.line ops s _ c.is_there.result has there (ap (λ lookups. record s { lookups = lookups }) c.in_ok-note_lookup.ensures))
    c.enter.ensures.ending
