use Rattle.std.proofs.Common.{refl}
use Rattle.devices.proofs.devices.CountedSource.calls.Goals as goal

pub returns : goal.returns
returns g c = refl
