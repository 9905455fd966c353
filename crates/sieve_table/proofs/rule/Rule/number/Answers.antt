use Rattle.std.proofs.Common.{rules}
use Rattle.sieve_table.proofs.rule.Rule.number.Goals as goal

pub returns : goal.returns
returns c = search rules
