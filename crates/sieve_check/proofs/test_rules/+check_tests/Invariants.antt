use Rattle.std.proofs.Common.{◌≡◌, map}
use Rattle.sieve_syntax.specs.Tree.{tests}
use Rattle.sieve_syntax.specs.view.Tree.{test_of}
use Rattle.sieve_check.specs.Breach.{breaches_in}
use Rattle.sieve_check.specs.Element.{test_list_elements}
use Rattle.sieve_check.specs.Script.{conditions}
use Rattle.sieve_check.specs.view.Context.{context_as}
use Rattle.sieve_script.specs.view.Script.{conditions_before}
use Rattle.sieve_check.proofs.test_rules.+check_tests.Given as goal

-- The breaches of the tests that are left are all that there are. The conditions that are read,
-- before those of the tests that are left, are all conditions.
abbrev pub invariant-check_test_list-loop-test : goal.invariant-check_test_list-loop-test
invariant-check_test_list-loop-test l = record {
  found : breaches_in (test_list_elements (context_as l.context) (tests (map test_of l.test-iterator.rest.items))) ≡ breaches_in (test_list_elements (context_as l.context) (tests (map test_of l.fn.list.items)));
  read : conditions_before l.conditions.items (conditions (context_as l.context) (tests (map test_of l.test-iterator.rest.items))) ≡ conditions (context_as l.context) (tests (map test_of l.fn.list.items));
}
