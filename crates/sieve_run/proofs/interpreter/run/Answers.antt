use Rattle.std.proofs.Common.{arith}
use Rattle.sieve_run.proofs.Performing.{by_code}
use Rattle.sieve_run.specs.Run.{verdict_of}
use Rattle.sieve_run.proofs.interpreter.run.Goals as goal

pub returns-in_default-clause-meter : goal.returns-in_default-clause-meter
unfolding verdict_of
returns-in_default-clause-meter g c = grind (arith, by_code)
