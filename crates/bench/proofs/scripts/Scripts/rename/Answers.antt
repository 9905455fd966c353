use Rattle.std.proofs.Common.{sym, ◌∙◌}
use Rattle.bench.proofs.Texts.{profile_at}
use Rattle.bench.proofs.scripts.Scripts.rename.Goals as goal

pub keep-requires : goal.keep-requires
keep-requires c = profile_at c.args.self.now c.args.from.now c.in-Some.script (sym c.in-Some.is ∙ c.in_ok-script.ensures)
