use Rattle.std.proofs.Common.{◌≡◌, [], ◌∷◌, map, rules, arith, sym, ap, ◌∙◌, subst}
use Rattle.std.proofs.lemmas.Grind.{common_steps}
use Rattle.std.proofs.lemmas.Result.{IfOk-weaker}
use Rattle.sieve_syntax.specs.Tree.{tests}
use Rattle.sieve_syntax.specs.view.Tree.{test_of, tests_of}
use Rattle.sieve_check.specs.Breach.{breaches_in}
use Rattle.sieve_check.specs.CheckFault.{IsFirst}
use Rattle.sieve_check.specs.Element.{test_list_elements, tests_elements}
use Rattle.sieve_check.specs.Script.{conditions}
use Rattle.sieve_check.specs.view.Context.{context_as}
use Rattle.sieve_script.specs.Script.{no_conditions, one_condition}
use Rattle.sieve_script.specs.view.Reading.{test_reading_as}
use Rattle.sieve_script.specs.view.Script.{condition_as, conditions_before}
use Rattle.sieve_check.proofs.Searches.{none_in}
use Rattle.sieve_check.proofs.Walk.{list_ends, list_goes_on, list_more, list_none, list_read, list_stops, none_read, one_read, test_reads}
use Rattle.sieve_syntax.proofs.Views.{none_seen}
use Rattle.sieve_check.proofs.test_rules.+check_tests.Goals as goal

pub check_test-returns-clause-read : goal.check_test-returns-clause-read
check_test-returns-clause-read t c =
    c.in_ok-joined.ensures
    ∙ test_reads c.args.test (context_as c.args.context) c.in_ok-head.head.kind (test_reading_as c.in_ok-reading.reading) (conditions_before c.in_ok-inner.inner.items no_conditions) c.in_ok-head.ensures.kind c.in_ok-reading.ensures c.in_ok-inner.ensures.read

pub check_test_list-returns-in_err-condition-clause-found : goal.check_test_list-returns-in_err-condition-clause-found
check_test_list-returns-in_err-condition-clause-found t c =
    let context = context_as c.args.context in let all = c.loop-test.test-iterator.rest.items in let rest = c.next.new.self.rest.items in
    let was : all ≡ c.in-Some.test ∷ rest = search rules in
    let stopped : IsFirst (breaches_in (test_list_elements context (tests (map test_of c.args.list.items)))) c.in_err-condition.field-0.0 =
    subst (λ bs. IsFirst bs c.in_err-condition.field-0.0) c.loop-test.invariant.found (list_stops context all rest c.in-Some.test was c.in_err-condition.field-0.0 c.in_err-condition.ensures.found) in
    grind (arith, stopped)

pub check_test_list-loop-test-preserved : goal.check_test_list-loop-test-preserved
check_test_list-loop-test-preserved t c =
    let context = context_as c.args.context in let all = c.loop-test.test-iterator.rest.items in let rest = c.next.new.self.rest.items in
    let was : all ≡ c.in-Some.test ∷ rest = search rules in
    let others = conditions context (tests (map test_of rest)) in record {
      found = list_goes_on context all rest c.in-Some.test was c.in_ok-condition.ensures.found ∙ c.loop-test.invariant.found;
      read =
          c.in_ok-conditions-2.ensures others
          ∙ ap (λ x. conditions_before c.loop-test.conditions.items (one_condition x others)) c.in_ok-condition.ensures.read
          ∙ ap (conditions_before c.loop-test.conditions.items) (sym (list_more context all rest c.in-Some.test was))
          ∙ c.loop-test.invariant.read;
    }

pub check_test_list-returns-clause-found : goal.check_test_list-returns-clause-found
check_test_list-returns-clause-found t c =
    let context = context_as c.args.context in
    let none : c.loop-test.test-iterator.rest.items ≡ [] = grind (arith, common_steps) in
    sym c.loop-test.invariant.found ∙ ap (λ l. breaches_in (test_list_elements context (tests (map test_of l)))) none ∙ list_ends context

pub check_test_list-returns-clause-read : goal.check_test_list-returns-clause-read
check_test_list-returns-clause-read t c =
    let context = context_as c.args.context in
    let none : c.loop-test.test-iterator.rest.items ≡ [] = grind (arith, common_steps) in
    ap (conditions_before c.loop-test.conditions.items) (sym (ap (λ l. conditions context (tests (map test_of l))) none ∙ list_none context)) ∙ c.loop-test.invariant.read

pub check_tests-returns-in-None-clause-found : goal.check_tests-returns-in-None-clause-found
unfolding tests_elements
check_tests-returns-in-None-clause-found t c =
    let context = context_as c.args.context in
    ap (λ ts. breaches_in (tests_elements context (tests_of ts))) c.in-None.is
    ∙ ap (λ ts. breaches_in (tests_elements context ts)) none_seen
    ∙ none_in

pub check_tests-returns-in-None-clause-read : goal.check_tests-returns-in-None-clause-read
check_tests-returns-in-None-clause-read t c =
    ap (λ l. conditions_before l no_conditions) c.new.ensures.items ∙ none_read c.args.tests (context_as c.args.context) c.in-None.is

pub check_tests-returns-in_ok-with_condition-in-One-clause-read : goal.check_tests-returns-in_ok-with_condition-in-One-clause-read
check_tests-returns-in_ok-with_condition-in-One-clause-read t c =
    let context = context_as c.args.context in
    c.in_ok-with_condition-in-One.ensures no_conditions
    ∙ ap (λ l. conditions_before l (one_condition (condition_as c.in_ok-condition-in-One.condition) no_conditions)) c.in_ok-none-in-One.ensures.items
    ∙ ap (λ x. one_condition x no_conditions) c.in_ok-condition-in-One.ensures.read
    ∙ one_read c.args.tests c.in-One.test c.into_inner.result context c.in-One.is c.into_inner.ensures

pub check_tests-returns-in-List-clause-read : goal.check_tests-returns-in-List-clause-read
check_tests-returns-in-List-clause-read t c =
    IfOk-weaker c.check_test_list.result _ _
    (λ read is. is ∙ list_read c.args.tests c.in-List.list c.into_inner-in-List.result (context_as c.args.context) c.in-List.is c.into_inner-in-List.ensures)
    c.check_test_list.ensures.read
