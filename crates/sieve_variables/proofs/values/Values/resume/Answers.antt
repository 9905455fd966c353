use Rattle.std.proofs.Common.{rules}
use Rattle.sieve_variables.proofs.values.Values.resume.Goals as goal

pub returns : goal.returns
returns c = search rules
