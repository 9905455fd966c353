use Rattle.std.proofs.Common.{length, ap, sym, ◌∙◌}
use Rattle.bench.specs.view.Scripts.{ScriptsState}
use Rattle.bench.proofs.Texts.{length-texts}
use Rattle.bench.proofs.scripts.Scripts.len.Goals as goal

pub returns : goal.returns
returns c = c.len.ensures.len ∙ sym (length-texts c.self.inside.by_name.entries) ∙ ap (λ (s : ScriptsState). length s.scripts) c.self.view_is
