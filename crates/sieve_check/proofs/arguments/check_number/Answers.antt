use Rattle.std.proofs.Common.{rules}
use Rattle.sieve_check.specs.Breach.{breaches_at}
use Rattle.sieve_check.proofs.arguments.check_number.Goals as goal

pub returns-in-None : goal.returns-in-None
unfolding breaches_at
returns-in-None c = search rules
