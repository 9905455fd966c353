use Rattle.packed_strings.specs.Joined.{list_in}
use Rattle.sieve_script.specs.Reading.{exists_ask, mailboxes_ask}
use Rattle.sieve_code.specs.Pool.{Pool}
use Rattle.sieve_code.proofs.Keeping.{kept_as, kept_still}
use Rattle.sieve_code.proofs.pools.Pools.pack_ask.Goals as goal

pub returns-in_ok-names-in-Exists : goal.returns-in_ok-names-in-Exists
returns-in_ok-names-in-Exists c =
    rw c.in-Exists.is (kept_as exists_ask _ _ (λ (p : Pool). list_in p.names c.in_ok-names-in-Exists.names) c.in-Exists.names.items c.in_ok-names-in-Exists.ensures)

pub returns-in_ok-names-in-MailboxExists : goal.returns-in_ok-names-in-MailboxExists
returns-in_ok-names-in-MailboxExists c =
    rw c.in-MailboxExists.is (kept_as mailboxes_ask _ _ (λ (p : Pool). list_in p.lists c.in_ok-names-in-MailboxExists.names) c.in-MailboxExists.names.items c.in_ok-names-in-MailboxExists.ensures)

pub returns-in-Over : goal.returns-in-Over
returns-in-Over c = rw c.in-Over.is (kept_still _ _)

pub returns-in-Duplicate : goal.returns-in-Duplicate
returns-in-Duplicate c = rw c.in-Duplicate.is (kept_still _ _)

pub returns-in-Under : goal.returns-in-Under
returns-in-Under c = rw c.in-Under.is (kept_still _ _)
