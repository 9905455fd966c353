use Rattle.std.proofs.Common.{rules}
use Rattle.sieve_table.proofs.role.has_role.Goals as goal

pub returns-in-None : goal.returns-in-None
returns-in-None c = search rules
