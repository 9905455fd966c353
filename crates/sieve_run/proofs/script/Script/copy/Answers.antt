use Rattle.std.proofs.Common.{rules}
use Rattle.sieve_run.proofs.script.Script.copy.Goals as goal

pub returns : goal.returns
returns c = search rules
