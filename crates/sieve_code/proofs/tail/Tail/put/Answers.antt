use Rattle.sieve_code.specs.view.Pools.{pool_as}
use Rattle.sieve_code.proofs.Keeping.{stays_plain, stays_same}
use Rattle.sieve_code.proofs.tail.Tail.put.Goals as goal

pub invariant_of-self : goal.invariant_of-self
invariant_of-self c = stays_same (pool_as c.self.inside.pools) c.self.inside.ops.items c.push_front.new.self.items c.self.invariant c.in_err-push_front.ensures.items

pub invariant_of-self-2 : goal.invariant_of-self-2
invariant_of-self-2 c = stays_plain (pool_as c.self.inside.pools) c.self.inside.ops.items c.push_front.new.self.items c.self.invariant c.args.op c.requires c.in_ok-push_front.ensures.items
