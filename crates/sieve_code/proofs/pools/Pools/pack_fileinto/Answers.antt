use Rattle.sieve_script.specs.Reading.{fileinto_leaf}
use Rattle.sieve_script.specs.view.Reading.{settings_as}
use Rattle.sieve_code.specs.Pool.{Pool, settings_in, string_in}
use Rattle.sieve_code.proofs.Keeping.{kept_two}
use Rattle.sieve_code.proofs.pools.Pools.pack_fileinto.Goals as goal

pub returns : goal.returns
returns c =
    kept_two (λ a b. fileinto_leaf a b) _ _ _ (λ (p : Pool). string_in p c.in_ok-mailbox.mailbox) (λ (p : Pool). settings_in p c.in_ok-settings.settings) c.args.mailbox (settings_as c.args.settings) c.in_ok-mailbox.ensures c.in_ok-settings.ensures
