use Rattle.std.proofs.Common.{rules}
use Rattle.devices.proofs.devices.CountedSink.write_some.Goals as goal

pub returns-else-not-matches-clause-faults : goal.returns-else-not-matches-clause-faults
returns-else-not-matches-clause-faults g c = search rules
