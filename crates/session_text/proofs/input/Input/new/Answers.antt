use Rattle.std.proofs.Common.{refl}
use Rattle.session_text.proofs.input.Input.new.Goals as goal

pub returns : goal.returns
returns c = refl
