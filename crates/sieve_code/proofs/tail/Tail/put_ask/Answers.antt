use Rattle.std.proofs.Common.{◌∷◌, List, ap, ◌∙◌}
use Rattle.sieve_script.specs.view.Reading.{ask_as}
use Rattle.sieve_code.specs.Operation.{Operation, test_op}
use Rattle.sieve_code.specs.view.Pools.{pool_as}
use Rattle.sieve_code.specs.Pool.{Pool, ask_at}
use Rattle.sieve_code.specs.declared.operation.PackedOperation.TheVariants as op
use Rattle.sieve_code.proofs.Keeping.{kept_as, ops_more, stays_grown, stays_more, stays_same}
use Rattle.sieve_code.proofs.tail.Tail.put_ask.Goals as goal

pub invariant_of-self : goal.invariant_of-self
invariant_of-self c =
    let old = c.self.inside in let new = pool_as c.add_ask.new.self in
    stays_same new old.ops.items c.push_front.new.self.items (stays_grown (pool_as old.pools) new old.ops.items c.in-Ok.ensures.grows c.self.invariant) c.in_err-push_front-in-Ok.ensures.items

pub invariant_of-self-in-Ok : goal.invariant_of-self-in-Ok
invariant_of-self-in-Ok c =
    let old = c.self.inside in
    stays_more (pool_as old.pools) (pool_as c.add_ask.new.self) old.ops.items c.push_front.new.self.items (op.Test c.in-Ok.place) (test_op (ask_as c.args.ask)) (kept_as test_op _ _ (λ (p : Pool). ask_at p c.in-Ok.place) (ask_as c.args.ask) c.in-Ok.ensures) c.self.invariant c.in_ok-push_front-in-Ok.ensures.items

pub returns-in_ok-push_front-in-Ok : goal.returns-in_ok-push_front-in-Ok
returns-in_ok-push_front-in-Ok c =
    let old = c.self.inside in
    ops_more (pool_as old.pools) (pool_as c.add_ask.new.self) old.ops.items c.push_front.new.self.items (op.Test c.in-Ok.place) (test_op (ask_as c.args.ask)) (kept_as test_op _ _ (λ (p : Pool). ask_at p c.in-Ok.place) (ask_as c.args.ask) c.in-Ok.ensures) c.self.invariant c.in_ok-push_front-in-Ok.ensures.items
    ∙ ap (λ (ops : List Operation). test_op (ask_as c.args.ask) ∷ ops) c.self.view_is
