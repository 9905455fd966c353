use Rattle.std.proofs.Common.{refl}
use Rattle.devices.proofs.devices.Counted.new.Goals as goal

pub returns-clause-calls : goal.returns-clause-calls
returns-clause-calls g c = refl
