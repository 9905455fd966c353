use Rattle.std.proofs.Common.{◌∙◌, length, sym, ap}
use Rattle.sieve_limits.specs.Limits.{include_depth}
use Rattle.sieve_code.specs.Walk.{code_walk}
use Rattle.sieve_code.specs.view.Code.{ops_of}
use Rattle.sieve_run.specs.Library.{Lookup, library_of}
use Rattle.sieve_run.specs.Run.{act_of, delivery_to, verdict_after}
use Rattle.sieve_delivery.specs.State.{RunState}
use Rattle.sieve_delivery.specs.view.Delivery.{arrival_as}
use Rattle.script_names.specs.declared.name.ScriptName.{ScriptName}
use Rattle.sieve_delivery.specs.view.State.{state_of}
use Rattle.sieve_run.specs.view.Step.{doing}
use Rattle.sieve_run.proofs.Bounds.{run_bounded}
use Rattle.sieve_run.proofs.interpreter.run_main.Goals as goal

pub ended-requires : goal.ended-requires
ended-requires g c =
    let find : ScriptName → Lookup = library_of (g.L.Library.profile c.args.lib.now) (g.L.Library.texts c.args.lib.now) in
    let d = delivery_to (arrival_as c.args.arrival.now) c.args.main.now in
    let ops = ops_of c.args.code.now in
    run_bounded find include_depth d (code_walk ops (length ops)) c.in_ok-ending.ending (state_of c.in_ok-state.state) (state_of c.execute.new.state) (ap (λ (s : RunState). s.entries) c.in_ok-state.ensures) c.in_ok-ending.ensures.ending

pub returns : goal.returns
returns g c =
    let find : ScriptName → Lookup = library_of (g.L.Library.profile c.args.lib.now) (g.L.Library.texts c.args.lib.now) in
    let d = delivery_to (arrival_as c.args.arrival.now) c.args.main.now in
    let ops = ops_of c.args.code.now in
    c.ended.ensures ∙ ap verdict_after (sym c.in_ok-ending.ensures.ending ∙ ap (doing (act_of find include_depth d) d (code_walk ops (length ops))) c.in_ok-state.ensures)
