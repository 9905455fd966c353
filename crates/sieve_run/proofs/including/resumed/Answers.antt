use Rattle.std.proofs.Common.{rules}
use Rattle.sieve_run.proofs.including.resumed.Goals as goal

pub returns-in-Returned : goal.returns-in-Returned
returns-in-Returned c = search rules
