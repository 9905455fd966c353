use Rattle.std.proofs.Common.{rules}
use Rattle.script_names.proofs.name.ScriptName.copy.Goals as goal

pub returns : goal.returns
returns c = search rules
