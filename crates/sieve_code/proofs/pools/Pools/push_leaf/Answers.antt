use Rattle.std.proofs.Common.{◌≡◌, List, ap, length, rules}
use Rattle.sieve_code.specs.Pool.{PackedLeaf}
use Rattle.sieve_code.specs.view.Pools.{pool_as}
use Rattle.sieve_code.proofs.Keeping.{leaf_kept}
use Rattle.sieve_code.proofs.pools.Pools.push_leaf.Goals as goal

pub returns : goal.returns
returns c = λ p x kept.
    let q = pool_as c.args.self.now in
    let at : c.in_ok-place.place ≡ length c.args.self.now.leaves.items = search rules in
    leaf_kept p q _ c.in_ok-place.place c.args.leaf x at (ap (λ (l : List PackedLeaf). record q { leaves = l }) c.in_ok-push.ensures.items) kept
