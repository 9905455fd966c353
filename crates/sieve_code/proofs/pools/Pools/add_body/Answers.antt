use Rattle.packed_strings.specs.Joined.{list_in}
use Rattle.sieve_script.specs.Reading.{content_transform}
use Rattle.sieve_code.specs.Pool.{Pool}
use Rattle.sieve_code.proofs.Keeping.{kept_as, kept_still}
use Rattle.sieve_code.proofs.pools.Pools.add_body.Goals as goal

pub returns-in-Raw : goal.returns-in-Raw
returns-in-Raw c = rw c.in-Raw.is (kept_still _ _)

pub returns-in-Text : goal.returns-in-Text
returns-in-Text c = rw c.in-Text.is (kept_still _ _)

pub returns-in_ok-entries-in-Content : goal.returns-in_ok-entries-in-Content
returns-in_ok-entries-in-Content c =
    rw c.in-Content.is (kept_as content_transform _ _ (λ (p : Pool). list_in p.lists c.in_ok-entries-in-Content.entries) c.in-Content.entries.items c.in_ok-entries-in-Content.ensures)
