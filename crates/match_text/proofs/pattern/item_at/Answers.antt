use Rattle.std.proofs.Common.{rules}
use Rattle.match_text.proofs.pattern.item_at.Goals as goal

pub returns-in-92 : goal.returns-in-92
returns-in-92 g c = search rules
