use Rattle.std.proofs.Common.{rules}
use Rattle.sieve_variables.proofs.modifier.is_wild.Goals as goal

pub returns-else-octet-eq63 : goal.returns-else-octet-eq63
returns-else-octet-eq63 c = search rules
