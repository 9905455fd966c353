use Rattle.std.proofs.Common.{rules}
use Rattle.sieve_delivery.proofs.error.ErrorKind.word.Goals as goal

pub returns-in-IncludeDepth : goal.returns-in-IncludeDepth
returns-in-IncludeDepth c = search rules
