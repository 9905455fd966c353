use Rattle.std.proofs.Common.{rules}
use Rattle.sieve_run.proofs.script.Script.found.Goals as goal

pub returns-in-Faulty : goal.returns-in-Faulty
returns-in-Faulty c = search rules
