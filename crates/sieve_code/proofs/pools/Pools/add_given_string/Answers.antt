use Rattle.std.proofs.Common.{Some}
use Rattle.sieve_code.specs.Pool.{Pool, string_in}
use Rattle.sieve_code.proofs.Keeping.{kept_as, kept_still}
use Rattle.sieve_code.proofs.pools.Pools.add_given_string.Goals as goal

pub returns-in-None : goal.returns-in-None
returns-in-None c = rw c.in-None.is (kept_still _ _)

pub returns-in_ok-place-in-Some : goal.returns-in_ok-place-in-Some
returns-in_ok-place-in-Some c =
    rw c.in-Some.is (kept_as Some _ _ (λ (p : Pool). string_in p c.in_ok-place-in-Some.place) c.in-Some.string c.in_ok-place-in-Some.ensures)
