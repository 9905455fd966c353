use Rattle.std.proofs.Common.{rules}
use Rattle.flag_lists.proofs.flag.FlagPartialEq.eq.Goals as goal

pub returns : goal.returns
returns c = search rules
