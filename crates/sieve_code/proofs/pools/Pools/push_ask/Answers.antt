use Rattle.std.proofs.Common.{◌≡◌, List, ap, length, rules}
use Rattle.sieve_code.specs.Pool.{PackedAsk}
use Rattle.sieve_code.specs.view.Pools.{pool_as}
use Rattle.sieve_code.proofs.Keeping.{ask_kept}
use Rattle.sieve_code.proofs.pools.Pools.push_ask.Goals as goal

pub returns : goal.returns
returns c = λ p x kept.
    let q = pool_as c.args.self.now in
    let at : c.in_ok-place.place ≡ length c.args.self.now.asks.items = search rules in
    ask_kept p q _ c.in_ok-place.place c.args.ask x at (ap (λ (a : List PackedAsk). record q { asks = a }) c.in_ok-push.ensures.items) kept
