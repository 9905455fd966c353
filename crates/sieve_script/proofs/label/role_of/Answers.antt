use Rattle.std.proofs.Common.{rules}
use Rattle.sieve_script.proofs.label.role_of.Goals as goal

pub returns-in-Tagged : goal.returns-in-Tagged
returns-in-Tagged c = search rules
