use Rattle.std.proofs.Common.{rules}
use Rattle.octets.proofs.string.Octets.into_vec.Goals as goal

pub returns : goal.returns
returns c = search rules
