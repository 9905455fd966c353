use Rattle.std.proofs.Common.{◌∙◌, ap, map, refl, rules}
use Rattle.sieve_syntax.specs.view.Tree.{argument_of}
use Rattle.sieve_check.specs.view.Context.{context_as}
use Rattle.sieve_script.specs.Shape.{known_labels}
use Rattle.sieve_table.specs.Table.{test_row}
use Rattle.sieve_table.specs.view.Row.{row_as}
use Rattle.sieve_check.proofs.Heads.{test_passes, test_stops, test_unknown}
use Rattle.sieve_check.proofs.test_rules.check_test_head.Goals as goal

pub returns-in_ok-labels-in-Some-clause-found : goal.returns-in_ok-labels-in-Some-clause-found
returns-in_ok-labels-in-Some-clause-found c =
    test_passes c.args.test.now (context_as c.args.context) c.in-Some.kind (row_as c.row-row.result) _ c.deref.result.now c.in-Some.ensures refl c.row-row.ensures c.deref.ensures.value c.in_ok-labels-in-Some.ensures.found

pub returns-in_ok-labels-in-Some-clause-labels : goal.returns-in_ok-labels-in-Some-clause-labels
returns-in_ok-labels-in-Some-clause-labels c =
    let p = (context_as c.args.context).profile in
    c.in_ok-labels-in-Some.ensures.labels
    ∙ ap (λ r. known_labels p r (map argument_of c.deref.result.now)) c.row-row.ensures
    ∙ ap (λ a. known_labels p (test_row c.in-Some.kind) (map argument_of a)) c.deref.ensures.value

pub returns-in_err-labels-in-Some-clause-found : goal.returns-in_err-labels-in-Some-clause-found
returns-in_err-labels-in-Some-clause-found c =
    let stops =
    test_stops c.args.test.now (context_as c.args.context) c.in-Some.kind (row_as c.row-row.result) _ c.deref.result.now c.in-Some.ensures refl c.row-row.ensures c.deref.ensures.value _ c.in_err-labels-in-Some.ensures.found in
    search rules

pub returns-in-None-clause-found : goal.returns-in-None-clause-found
returns-in-None-clause-found c = test_unknown c.args.test.now (context_as c.args.context) _ c.in-None.ensures refl
