use Rattle.std.proofs.Common.{rules}
use Rattle.sieve_table.proofs.capability.is_name_of.Goals as goal

pub returns : goal.returns
returns c = search rules
