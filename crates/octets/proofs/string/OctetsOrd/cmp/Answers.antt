use Rattle.std.proofs.Common.{rules}
use Rattle.octets.proofs.string.OctetsOrd.cmp.Goals as goal

pub returns : goal.returns
returns c = search rules
