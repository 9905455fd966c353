use Rattle.std.proofs.Common.{◌≡◌, ◌<◌, length, refl, sym, ◌∙◌, arith}
use Rattle.std.proofs.lemmas.Bool.{eqb-false, eqb-true}
use Rattle.sieve_variables.specs.Scan.{is_far, is_foreign, is_namespaced, is_reference}
use Rattle.sieve_variables.proofs.Steps.{passed_all, passed_octet, passed_reference, plain_parts, true_once}
use Rattle.sieve_variables.proofs.references.references_in.Goals as goal

pub loop-rest-preserved-in-None : goal.loop-rest-preserved-in-None
loop-rest-preserved-in-None c =
    let rest = c.loop-rest.rest.now in
    let after = c.split_at.result.1.now in
    let some : 0 < length rest = grind (arith, eqb-false) in
    let none = c.in-None.ensures.is in
    let is = c.split_at.ensures.back in
    record {
      any = passed_octet is_reference (λ _. refl) rest after c.loop-rest.any _ some none is c.loop-rest.invariant.any;
      namespaced = passed_octet is_namespaced (λ _. refl) rest after c.loop-rest.namespaced _ some none is c.loop-rest.invariant.namespaced;
      foreign = passed_octet is_foreign (λ _. refl) rest after c.loop-rest.foreign _ some none is c.loop-rest.invariant.foreign;
      far = passed_octet is_far (λ _. refl) rest after c.loop-rest.far _ some none is c.loop-rest.invariant.far;
    }

pub loop-rest-preserved : goal.loop-rest-preserved
loop-rest-preserved c =
    let rest = c.loop-rest.rest.now in
    let inside = c.in-Some.inside.now in
    let after = c.split_at-in-Some.result.1.now in
    let found = c.in-Some.ensures.is in
    let is = c.split_at-in-Some.ensures.back in
    record {
      any =
          true_once c.loop-rest.any _ _
          (passed_reference is_reference rest inside after c.loop-rest.any _ _ found refl is c.loop-rest.invariant.any);
      namespaced =
          passed_reference is_namespaced rest inside after c.loop-rest.namespaced _ _ found c.is_namespaced-namespaced.ensures is c.loop-rest.invariant.namespaced;
      foreign =
          passed_reference is_foreign rest inside after c.loop-rest.foreign _ _ found c.is_foreign-foreign.ensures is c.loop-rest.invariant.foreign;
      far = passed_reference is_far rest inside after c.loop-rest.far _ _ found c.is_far-far.ensures is c.loop-rest.invariant.far;
    }

pub returns-clause-any : goal.returns-clause-any
returns-clause-any c =
    let none : length c.loop-rest.rest.now ≡ 0 = grind (arith, eqb-true) in
    passed_all is_reference c.loop-rest.rest.now c.loop-rest.any _ none c.loop-rest.invariant.any

pub returns-clause-plain : goal.returns-clause-plain
returns-clause-plain c plain =
    let none : length c.loop-rest.rest.now ≡ 0 = grind (arith, eqb-true) in
    plain_parts c.args.text.now (sym (passed_all is_reference c.loop-rest.rest.now c.loop-rest.any _ none c.loop-rest.invariant.any) ∙ plain)

pub returns-clause-namespaced : goal.returns-clause-namespaced
returns-clause-namespaced c =
    let none : length c.loop-rest.rest.now ≡ 0 = grind (arith, eqb-true) in
    passed_all is_namespaced c.loop-rest.rest.now c.loop-rest.namespaced _ none c.loop-rest.invariant.namespaced

pub returns-clause-foreign : goal.returns-clause-foreign
returns-clause-foreign c =
    let none : length c.loop-rest.rest.now ≡ 0 = grind (arith, eqb-true) in
    passed_all is_foreign c.loop-rest.rest.now c.loop-rest.foreign _ none c.loop-rest.invariant.foreign

pub returns-clause-far : goal.returns-clause-far
returns-clause-far c =
    let none : length c.loop-rest.rest.now ≡ 0 = grind (arith, eqb-true) in
    passed_all is_far c.loop-rest.rest.now c.loop-rest.far _ none c.loop-rest.invariant.far
