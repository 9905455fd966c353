use Rattle.packed_strings.specs.Joined.{list_in}
use Rattle.sieve_script.specs.Reading.{compares}
use Rattle.sieve_script.specs.view.Reading.{source_as}
use Rattle.sieve_code.specs.Pool.{Pool, source_in}
use Rattle.sieve_code.proofs.Keeping.{kept_two}
use Rattle.sieve_code.proofs.pools.Pools.pack_compares.Goals as goal

pub returns : goal.returns
returns c =
    let keys = c.in_ok-keys.keys in let source = c.in_ok-source.source in
    kept_two (λ a b. compares a c.args.comparison b) _ _ _ (λ (p : Pool). source_in p source) (λ (p : Pool). list_in p.lists keys) (source_as c.args.source) c.args.keys.items c.in_ok-source.ensures c.in_ok-keys.ensures
