use Rattle.std.proofs.Common.{rules, sym}
use Rattle.bench.specs.Content.{without_script}
use Rattle.bench.specs.Report.{verdict_by}
use Rattle.bench.specs.view.Site.{site_by}
use Rattle.bench.proofs.Marks.{stale-marked}
use Rattle.bench.proofs.Names.{text-without_script}
use Rattle.bench.proofs.bench.Bench.remove_script.Goals as goal

pub invariant_of-self : goal.invariant_of-self
invariant_of-self c =
    let scripts = c.self.inside.scripts.scripts in (
      rw c.remove.ensures
          (c.forget_readers.ensures.forgotten.due (site_by c.self.inside.main c.self.inside.envelope c.self.inside.scripts) (without_script c.args.name.now scripts)
          (λ other apart. sym (text-without_script c.args.name.now other scripts apart)) c.self.invariant.0),
      c.forget_readers.ensures.forgotten.ids,
    )

pub returns : goal.returns
returns c = (
  (
    rw (c.remove.ensures, c.forget_readers.ensures.forgotten.messages) (search rules),
    rw (← c.self.view_is, c.forget_readers.ensures.forgotten.entries)
        (stale-marked (verdict_by (site_by c.self.inside.main c.self.inside.envelope c.self.inside.scripts)) c.args.name.now c.self.inside.messages.entries c.self.invariant.0 c.self.invariant.1),
  ),
  tt,
  search rules,
)
