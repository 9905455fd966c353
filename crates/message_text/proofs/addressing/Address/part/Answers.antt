use Rattle.std.proofs.Common.{arith}
use Rattle.std.proofs.lemmas.Grind.{common_steps}
use Rattle.message_text.proofs.addressing.Address.part.Goals as goal

pub returns-in_ok-self-in-Domain : goal.returns-in_ok-self-in-Domain
returns-in_ok-self-in-Domain c = grind (arith, common_steps)
