use Rattle.std.proofs.Common.{rules}
use Rattle.flag_lists.proofs.sought_flags.flag_keys.Goals as goal

pub returns : goal.returns
returns c = search rules
