use Rattle.std.proofs.Common.{rules}
use Rattle.flag_lists.proofs.flags.FlagList.len.Goals as goal

pub returns-clause-length : goal.returns-clause-length
returns-clause-length c = search rules
