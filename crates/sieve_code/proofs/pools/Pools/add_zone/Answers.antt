use Rattle.sieve_script.specs.Reading.{named_zone}
use Rattle.sieve_code.specs.Pool.{Pool, string_in}
use Rattle.sieve_code.proofs.Keeping.{kept_as, kept_still}
use Rattle.sieve_code.proofs.pools.Pools.add_zone.Goals as goal

pub returns-in-Local : goal.returns-in-Local
returns-in-Local c = rw c.in-Local.is (kept_still _ _)

pub returns-in-Original : goal.returns-in-Original
returns-in-Original c = rw c.in-Original.is (kept_still _ _)

pub returns-in_ok-place-in-Named : goal.returns-in_ok-place-in-Named
returns-in_ok-place-in-Named c =
    rw c.in-Named.is (kept_as named_zone _ _ (λ (p : Pool). string_in p c.in_ok-place-in-Named.place) c.in-Named.zone c.in_ok-place-in-Named.ensures)
