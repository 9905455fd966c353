use Rattle.std.proofs.lemmas.Result.{IfOk-weaker}
use Rattle.sieve_script.specs.view.Reading.{leaf_as}
use Rattle.sieve_code.specs.view.Pools.{pool_as}
use Rattle.sieve_code.proofs.pools.Pools.add_leaf.Goals as goal

pub returns : goal.returns
returns c =
    IfOk-weaker c.push_leaf.result _ _ (λ place keeps. keeps (pool_as c.args.self.now) (leaf_as c.args.leaf) c.in_ok-packed.ensures) c.push_leaf.ensures
