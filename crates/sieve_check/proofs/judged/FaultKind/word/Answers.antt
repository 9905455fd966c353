use Rattle.std.proofs.Common.{rules}
use Rattle.sieve_check.proofs.judged.FaultKind.word.Goals as goal

pub returns-in-Syntax : goal.returns-in-Syntax
returns-in-Syntax c = search rules
