use Rattle.std.proofs.Common.{rules}
use Rattle.script_names.proofs.name.ScriptName.new.Goals as goal

pub returns : goal.returns
returns c = search rules
