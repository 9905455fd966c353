use Rattle.std.proofs.Common.{◌∷◌, List, ap, ◌∙◌}
use Rattle.sieve_script.specs.view.Reading.{leaf_as}
use Rattle.sieve_code.specs.Operation.{Operation, act_op}
use Rattle.sieve_code.specs.view.Pools.{pool_as}
use Rattle.sieve_code.specs.Pool.{Pool, leaf_at}
use Rattle.sieve_code.specs.declared.operation.PackedOperation.TheVariants as op
use Rattle.sieve_code.proofs.Keeping.{kept_as, ops_more, stays_grown, stays_more, stays_same}
use Rattle.sieve_code.proofs.tail.Tail.put_act.Goals as goal

pub invariant_of-self : goal.invariant_of-self
invariant_of-self c =
    let old = c.self.inside in let new = pool_as c.add_leaf.new.self in
    stays_same new old.ops.items c.push_front.new.self.items (stays_grown (pool_as old.pools) new old.ops.items c.in-Ok.ensures.grows c.self.invariant) c.in_err-push_front-in-Ok.ensures.items

pub invariant_of-self-in-Ok : goal.invariant_of-self-in-Ok
invariant_of-self-in-Ok c =
    let old = c.self.inside in
    stays_more (pool_as old.pools) (pool_as c.add_leaf.new.self) old.ops.items c.push_front.new.self.items (op.Act c.in-Ok.leaf c.args.line) (act_op (leaf_as c.args.leaf) c.args.line) (kept_as (λ l. act_op l c.args.line) _ _ (λ (p : Pool). leaf_at p c.in-Ok.leaf) (leaf_as c.args.leaf) c.in-Ok.ensures) c.self.invariant c.in_ok-push_front-in-Ok.ensures.items

pub returns-in_ok-push_front-in-Ok : goal.returns-in_ok-push_front-in-Ok
returns-in_ok-push_front-in-Ok c =
    let old = c.self.inside in
    ops_more (pool_as old.pools) (pool_as c.add_leaf.new.self) old.ops.items c.push_front.new.self.items (op.Act c.in-Ok.leaf c.args.line) (act_op (leaf_as c.args.leaf) c.args.line) (kept_as (λ l. act_op l c.args.line) _ _ (λ (p : Pool). leaf_at p c.in-Ok.leaf) (leaf_as c.args.leaf) c.in-Ok.ensures) c.self.invariant c.in_ok-push_front-in-Ok.ensures.items
    ∙ ap (λ (ops : List Operation). act_op (leaf_as c.args.leaf) c.args.line ∷ ops) c.self.view_is
