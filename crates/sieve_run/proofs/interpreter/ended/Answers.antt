use Rattle.std.proofs.Common.{rules}
use Rattle.sieve_run.proofs.interpreter.ended.Goals as goal

pub returns-in-GoesOn : goal.returns-in-GoesOn
returns-in-GoesOn c = search rules
