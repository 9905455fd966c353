use Rattle.std.proofs.Common.{rules}
use Rattle.session_text.specs.SessionLine.{command_in}
use Rattle.session_text.proofs.session_line.command_in.Goals as goal

pub returns-in-None : goal.returns-in-None
unfolding command_in
returns-in-None c = search rules
