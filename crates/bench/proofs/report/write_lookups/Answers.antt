use Rattle.std.proofs.Common.{◌≡◌, ◌∷◌, ap}
use Rattle.std.specs.List.{flat_map}
use Rattle.bench.specs.view.Lines.{lookup_text}
use Rattle.bench.proofs.Writing.{goes_on_from, stops}
use Rattle.bench.proofs.report.write_lookups.Goals as goal

pub loop-name-preserved : goal.loop-name-preserved
loop-name-preserved g c =
    let cut : c.loop-name.name-iterator ≡ (c.in-Some.name.now, c.in-Some.is_present.now) ∷ c.next.new.self = c.in-Some.ensures.steps in
    goes_on_from _ _ _ _ _ (lookup_text (c.in-Some.name.now, c.in-Some.is_present.now)) (flat_map lookup_text c.next.new.self) _ _ c.loop-name.invariant (ap (flat_map lookup_text) cut) c.in_ok-write_read_line.ensures

pub returns-in_err-write_read_line : goal.returns-in_err-write_read_line
returns-in_err-write_read_line g c =
    let cut : c.loop-name.name-iterator ≡ (c.in-Some.name.now, c.in-Some.is_present.now) ∷ c.next.new.self = c.in-Some.ensures.steps in
    stops _ _ _ c.from_residual.ensures.0 _ _ _ (lookup_text (c.in-Some.name.now, c.in-Some.is_present.now)) (flat_map lookup_text c.next.new.self) _ _ c.loop-name.invariant (ap (flat_map lookup_text) cut) c.in_err-write_read_line.ensures
