use Rattle.std.proofs.Common.{rules}
use Rattle.sieve_variables.proofs.modifier.LetterCase.changed.Goals as goal

pub returns-in-Lower : goal.returns-in-Lower
returns-in-Lower c = search rules

pub returns-in-Upper : goal.returns-in-Upper
returns-in-Upper c = search rules
