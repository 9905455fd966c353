use Rattle.std.proofs.Common.{◌∙◌, Some, ap, map, sym}
use Rattle.std.specs.List.{slice_get}
use Rattle.sieve_variables.specs.Value.{text_value}
use Rattle.sieve_conditions.specs.view.FieldTests.{cut_key, key_found}
use Rattle.sieve_conditions.proofs.Keyed.{first_of_keys}
use Rattle.sieve_conditions.proofs.Searching.{first_from}
use Rattle.sieve_conditions.proofs.matcher.Matcher.first_of_keys.Goals as goal

pub loop-i-init : goal.loop-i-init
loop-i-init c =
    let matcher = c.args.self.now in
    (c.new-searched.ensures, sym (first_of_keys matcher.comparison c.args.value.now (cut_key matcher.are_cut) (text_value matcher.values.now) matcher.keys.now))

pub returns-in-Some : goal.returns-in-Some
returns-in-Some c =
    let matcher = c.args.self.now in
    let at = ap (λ value. slice_get (map (key_found matcher value) matcher.keys.now) c.loop-i.i) (sym c.loop-i.invariant.0) ∙ c.in_ok-found.ensures.found ∙ ap Some c.in-Some.is in
    first_from (key_found matcher c.args.value.now) matcher.keys.now c.loop-i.i _ at ∙ c.loop-i.invariant.1

pub loop-i-preserved : goal.loop-i-preserved
loop-i-preserved c =
    let matcher = c.args.self.now in
    let at = ap (λ value. slice_get (map (key_found matcher value) matcher.keys.now) c.loop-i.i) (sym c.loop-i.invariant.0) ∙ c.in_ok-found.ensures.found ∙ ap Some c.in_default.is in
    (c.in_ok-found.ensures.kept ∙ c.loop-i.invariant.0, first_from (key_found matcher c.args.value.now) matcher.keys.now c.loop-i.i _ at ∙ c.loop-i.invariant.1)
