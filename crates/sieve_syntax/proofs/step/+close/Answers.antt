use Rattle.std.proofs.Common.{[], ◌∷◌, ◌++◌, sym, ap, ◌∙◌, subst}
use Rattle.sieve_limits.specs.Limits.{block_room}
use Rattle.sieve_syntax.specs.Tree.{one_test}
use Rattle.sieve_syntax.specs.view.Reader.{Advances, outer_value, symbol_as}
use Rattle.sieve_syntax.specs.view.Tree.{test_of}
use Rattle.sieve_syntax.specs.declared.tree.Tests.TheVariants as test_variants
use Rattle.sieve_syntax.proofs.Closing.{closes_one, closes_listed}
use Rattle.sieve_syntax.proofs.Views.{one_seen}
use Rattle.sieve_syntax.proofs.step.+close.Goals as goal

pub returns-in_ok-test-in-Some-One : goal.returns-in_ok-test-in-Some-One
returns-in_ok-test-in-Some-One t c =
    let some = c.in-Some-One in
    let test = c.in_ok-test-in-Some-One.test in
    subst (Advances c.close.new.outer c.close.result)
    (sym (closes_one block_room (outer_value c.args.outer.now) c.args.outer.now.levels.items c.pop.new.self.items some.owner c.args.head c.args.tests (test_variants.One test) (symbol_as c.args.symbol)
    (some.ensures.items ∙ ap (λ level. c.pop.new.self.items ++ level ∷ []) some.field-0-is)
    (one_seen test ∙ ap (λ t. one_test (test_of t)) c.in_ok-test-in-Some-One.ensures.ok ∙ ap one_test c.in_ok-finished-in-Some-One.ensures)))
    c.close.ensures

pub returns-in_ok-push-in-Some-List : goal.returns-in_ok-push-in-Some-List
returns-in_ok-push-in-Some-List t c =
    let some = c.in-Some-List in
    subst (Advances c.close_in_list.new.outer c.close_in_list.result)
    (sym (closes_listed block_room (outer_value c.args.outer.now) c.args.outer.now.levels.items c.pop.new.self.items some.owner c.args.head some.before c.push.new.self.items c.in_ok-finished-in-Some-List.finished c.args.tests (symbol_as c.args.symbol)
    (some.ensures.items ∙ ap (λ level. c.pop.new.self.items ++ level ∷ []) some.field-0-is)
    c.in_ok-push-in-Some-List.ensures.items
    c.in_ok-finished-in-Some-List.ensures))
    c.close_in_list.ensures
