use Rattle.std.proofs.Common.{refl}
use Rattle.session_server.proofs.task.limit_of.Goals as goal

pub returns-in-Script : goal.returns-in-Script
returns-in-Script c = rw c.in-Script.is refl

pub returns-in-Message : goal.returns-in-Message
returns-in-Message c = rw c.in-Message.is refl

pub returns-in-Expected : goal.returns-in-Expected
returns-in-Expected c = rw c.in-Expected.is refl

pub returns-in-Mailboxes : goal.returns-in-Mailboxes
returns-in-Mailboxes c = rw c.in-Mailboxes.is refl
