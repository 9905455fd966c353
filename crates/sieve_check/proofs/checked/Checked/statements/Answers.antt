use Rattle.std.proofs.Common.{rules}
use Rattle.sieve_check.proofs.checked.Checked.statements.Goals as goal

pub returns : goal.returns
returns c = search rules
