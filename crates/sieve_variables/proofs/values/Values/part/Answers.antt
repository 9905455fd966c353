use Rattle.std.proofs.Common.{rules}
use Rattle.sieve_variables.proofs.values.Values.part.Goals as goal

pub returns-in-Variable : goal.returns-in-Variable
returns-in-Variable c = search rules
