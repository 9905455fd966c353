use Rattle.std.proofs.Common.{rules}
use Rattle.sieve_variables.proofs.modifier.Modifiers.cased.Goals as goal

pub returns : goal.returns
returns c = search rules
