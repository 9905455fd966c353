use Rattle.std.proofs.Common.{◌≡◌, ◌≤◌, ◌<◌, if◌then◌else◌, [], ◌∷◌, length, rules, refl, ap, sym, ◌∙◌}
use Rattle.sieve_script.specs.Script.{no_conditions, one_condition}
use Rattle.sieve_script.specs.view.Script.{condition_as}
use Rattle.sieve_code.specs.Choice.{condition_before, list_before}
use Rattle.sieve_code.specs.Operation.{jump_if_op}
use Rattle.sieve_code.proofs.Putting.{condition_put, conditions_with, joined_empty, joined_some, list_none, no_items, on_ok_along, put_all, put_always, put_any, put_asks, put_never, put_not}
use Rattle.sieve_code.proofs.condition_code.+condition_code.Goals as goal

pub put_condition-returns-in-Always : goal.put_condition-returns-in-Always
put_condition-returns-in-Always t c = on_ok_along _ _ _ _ (put_always c.args.condition c.args.tail.now c.in-Always.is) c.put.ensures

pub put_condition-returns-in-Never : goal.put_condition-returns-in-Never
put_condition-returns-in-Never t c = on_ok_along _ _ _ _ (put_never c.args.condition c.args.tail.now c.in-Never.is) c.put-in-Never.ensures

pub put_condition-returns-in-Asks : goal.put_condition-returns-in-Asks
put_condition-returns-in-Asks t c = on_ok_along _ _ _ _ (put_asks c.args.condition c.in-Asks.ask c.args.tail.now c.in-Asks.is) c.put_ask.ensures

pub put_condition-returns-in_ok-put-in-Not : goal.put_condition-returns-in_ok-put-in-Not
put_condition-returns-in_ok-put-in-Not t c =
    on_ok_along _ _ _ _
    (ap (condition_before (condition_as c.into_inner.result)) c.in_ok-put-in-Not.ensures
    ∙ put_not c.args.condition c.in-Not.inner c.into_inner.result c.args.tail.now c.in-Not.is c.into_inner.ensures)
    c.put_condition.ensures

pub put_condition-returns-in-All : goal.put_condition-returns-in-All
put_condition-returns-in-All t c = on_ok_along _ _ _ _ (put_all c.args.condition c.in-All.list c.args.tail.now c.in-All.is) c.put_joined.ensures

pub put_condition-returns-in-Any : goal.put_condition-returns-in-Any
put_condition-returns-in-Any t c = on_ok_along _ _ _ _ (put_any c.args.condition c.in-Any.list c.args.tail.now c.in-Any.is) c.put_joined-in-Any.ensures

pub put_joined-returns-then-is_empty : goal.put_joined-returns-then-is_empty
put_joined-returns-then-is_empty t c =
    let none : length c.args.list.items ≤ 0 = search rules in
    on_ok_along _ _ _ _ (ap (λ op. op ∷ c.args.tail.now) c.constant.ensures.op ∙ joined_empty c.args.truth c.args.list.items c.args.tail.now none) c.put.ensures

pub put_joined-loop-condition-init : goal.put_joined-loop-condition-init
put_joined-loop-condition-init t c =
    let all : c.into_iter-condition-iterator.result.rest.items ≡ c.args.list.items = search rules in
    record {
      seen = no_conditions;
      put = list_none c.args.truth c.args.tail.now;
      follows_is = refl;
      goes_on = ap (λ l. conditions_with l no_conditions) all;
    }

pub put_joined-loop-condition-preserved : goal.put_joined-loop-condition-preserved
put_joined-loop-condition-preserved t c =
    let condition = c.in-Some.condition in
    let inv = c.loop-condition.invariant in
    let first : c.loop-condition.condition-iterator.rest.items ≡ condition ∷ c.next.new.self.rest.items = search rules in
    record {
      seen = one_condition (condition_as condition) inv.seen;
      put =
          condition_put c.args.truth (condition_as condition) inv.seen c.args.tail.now c.loop-condition.tail c.put_condition.new.tail c.loop-condition.follows inv.put inv.follows_is
          (c.in_ok-put_condition.ensures ∙ ap (condition_before (condition_as condition)) (c.in_ok-put_joint.ensures ∙ ap (λ n. if c.loop-condition.follows then jump_if_op c.args.truth n ∷ c.loop-condition.tail else c.loop-condition.tail) c.in_ok-end.ensures));
      follows_is = refl;
      goes_on = sym (ap (λ l. conditions_with l inv.seen) first) ∙ inv.goes_on;
    }

pub put_joined-returns : goal.put_joined-returns
put_joined-returns t c =
    let inv = c.loop-condition.invariant in
    let gone : length c.loop-condition.condition-iterator.rest.items ≡ 0 = search rules in
    let none : c.loop-condition.condition-iterator.rest.items ≡ [] = no_items c.loop-condition.condition-iterator.rest.items gone in
    let some : 0 < length c.args.list.items = search rules in
    inv.put
    ∙ ap (λ s. list_before c.args.truth s c.args.tail.now) (sym (ap (λ l. conditions_with l inv.seen) none) ∙ inv.goes_on)
    ∙ joined_some c.args.truth c.args.list.items c.args.tail.now some
