use Rattle.std.proofs.Common.{rules}
use Rattle.octets.proofs.string.Octets.copied.Goals as goal

pub returns : goal.returns
returns c = search rules
