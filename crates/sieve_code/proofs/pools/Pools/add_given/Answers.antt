use Rattle.std.proofs.Common.{Some}
use Rattle.packed_strings.specs.Joined.{list_in}
use Rattle.sieve_code.specs.Pool.{Pool}
use Rattle.sieve_code.proofs.Keeping.{kept_as, kept_still}
use Rattle.sieve_code.proofs.pools.Pools.add_given.Goals as goal

pub returns-in-None : goal.returns-in-None
returns-in-None c = rw c.in-None.is (kept_still _ _)

pub returns-in_ok-place-in-Some : goal.returns-in_ok-place-in-Some
returns-in_ok-place-in-Some c =
    rw c.in-Some.is (kept_as Some _ _ (λ (p : Pool). list_in p.lists c.in_ok-place-in-Some.place) c.in-Some.texts.items c.in_ok-place-in-Some.ensures)
