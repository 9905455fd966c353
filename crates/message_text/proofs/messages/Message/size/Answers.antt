use Rattle.std.proofs.Common.{rules}
use Rattle.message_text.proofs.messages.Message.size.Goals as goal

pub returns-clause-size : goal.returns-clause-size
returns-clause-size c = search rules

pub returns-clause-limit : goal.returns-clause-limit
returns-clause-limit c = search rules
