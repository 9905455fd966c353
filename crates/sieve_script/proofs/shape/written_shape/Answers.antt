use Rattle.std.proofs.Common.{rules}
use Rattle.sieve_script.proofs.shape.written_shape.Goals as goal

pub returns-in-Number : goal.returns-in-Number
returns-in-Number c = search rules
