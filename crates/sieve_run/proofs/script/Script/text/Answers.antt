use Rattle.std.proofs.Common.{rules}
use Rattle.sieve_run.proofs.script.Script.text.Goals as goal

pub returns-clause-text : goal.returns-clause-text
returns-clause-text c = search rules
