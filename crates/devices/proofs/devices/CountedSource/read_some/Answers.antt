use Rattle.std.proofs.Common.{rules}
use Rattle.devices.proofs.devices.CountedSource.read_some.Goals as goal

pub returns-then-is_err-clause-calls : goal.returns-then-is_err-clause-calls
returns-then-is_err-clause-calls g c = search rules

pub returns-else-is_err-clause-calls : goal.returns-else-is_err-clause-calls
returns-else-is_err-clause-calls g c = search rules
