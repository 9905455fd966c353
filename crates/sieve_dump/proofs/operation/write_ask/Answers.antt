use Rattle.std.proofs.Common.{sym}
use Rattle.sieve_dump.specs.Asks.{ask_text}
use Rattle.sieve_dump.proofs.operation.write_ask.Goals as goal

pub returns-in-MailboxExists : goal.returns-in-MailboxExists
unfolding ask_text
returns-in-MailboxExists g c = rw c.in-MailboxExists.is (rw (sym c.list-in-MailboxExists.ensures) c.write_list-in-MailboxExists.ensures)
