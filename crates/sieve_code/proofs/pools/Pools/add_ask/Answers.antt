use Rattle.std.proofs.lemmas.Result.{IfOk-weaker}
use Rattle.sieve_script.specs.view.Reading.{ask_as}
use Rattle.sieve_code.specs.view.Pools.{pool_as}
use Rattle.sieve_code.proofs.pools.Pools.add_ask.Goals as goal

pub returns : goal.returns
returns c =
    IfOk-weaker c.push_ask.result _ _ (λ place keeps. keeps (pool_as c.args.self.now) (ask_as c.args.ask) c.in_ok-packed.ensures) c.push_ask.ensures
