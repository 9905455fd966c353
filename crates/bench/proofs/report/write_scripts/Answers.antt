use Rattle.std.proofs.Common.{◌≡◌, ◌∷◌, ap, ◌∙◌}
use Rattle.std.specs.List.{flat_map}
use Rattle.bench.specs.Report.{script_line}
use Rattle.bench.proofs.Texts.{lines-texts, own_line}
use Rattle.bench.proofs.Writing.{begins, goes_on_from, ends, stops}
use Rattle.bench.proofs.report.write_scripts.Goals as goal

pub loop-name-init : goal.loop-name-init
loop-name-init g c = begins _ _ _ _

pub loop-name-preserved : goal.loop-name-preserved
loop-name-preserved g c =
    let cut : c.loop-name.name-iterator ≡ (c.in-Some.name.now, c.in-Some.script.now) ∷ c.next.new.self = c.in-Some.ensures.steps in
    goes_on_from _ _ _ _ _ (own_line (c.in-Some.name.now, c.in-Some.script.now)) (flat_map own_line c.next.new.self) _ _ c.loop-name.invariant (ap (flat_map own_line) cut) c.in_ok-write_script.ensures

pub returns : goal.returns
returns g c =
    let given : c.into_iter-name-iterator.result ≡ c.by_name-name-items.result.now.entries = c.into_iter-name-iterator.ensures.into_iter_gives.0 in
    let lines : flat_map own_line c.into_iter-name-iterator.result ≡ flat_map (script_line c.args.scripts.now.profile) c.args.scripts.now.scripts =
    ap (flat_map own_line) given ∙ lines-texts c.args.scripts.now.profile c.by_name-name-items.result.now.entries c.by_name-name-items.ensures.profile ∙ ap (flat_map (script_line c.args.scripts.now.profile)) c.by_name-name-items.ensures.texts in
    rw (← lines) (ends _ _ _ _ _ _ (ap (flat_map own_line) c.in-None.ensures.steps.0) c.loop-name.invariant)

pub returns-in_err-write_script : goal.returns-in_err-write_script
returns-in_err-write_script g c =
    let given : c.into_iter-name-iterator.result ≡ c.by_name-name-items.result.now.entries = c.into_iter-name-iterator.ensures.into_iter_gives.0 in
    let lines : flat_map own_line c.into_iter-name-iterator.result ≡ flat_map (script_line c.args.scripts.now.profile) c.args.scripts.now.scripts =
    ap (flat_map own_line) given ∙ lines-texts c.args.scripts.now.profile c.by_name-name-items.result.now.entries c.by_name-name-items.ensures.profile ∙ ap (flat_map (script_line c.args.scripts.now.profile)) c.by_name-name-items.ensures.texts in
    let cut : c.loop-name.name-iterator ≡ (c.in-Some.name.now, c.in-Some.script.now) ∷ c.next.new.self = c.in-Some.ensures.steps in
    rw (← lines) (stops _ _ _ c.from_residual.ensures.0 _ _ _ (own_line (c.in-Some.name.now, c.in-Some.script.now)) (flat_map own_line c.next.new.self) _ _ c.loop-name.invariant (ap (flat_map own_line) cut) c.in_err-write_script.ensures)
