use Rattle.std.proofs.Common.{refl}
use Rattle.sieve_run.proofs.meter.Meter.new.Goals as goal

pub returns : goal.returns
returns c = refl
