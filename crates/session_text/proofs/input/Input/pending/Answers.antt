use Rattle.std.proofs.Common.{rules}
use Rattle.session_text.proofs.input.Input.pending.Goals as goal

pub returns : goal.returns
returns c = search rules
