use Rattle.std.proofs.Common.{rules, sym}
use Rattle.bench.specs.Content.{with_script}
use Rattle.bench.specs.Report.{verdict_by}
use Rattle.bench.specs.view.Site.{site_by}
use Rattle.bench.proofs.Marks.{stale-marked}
use Rattle.bench.proofs.Names.{text-with_script}
use Rattle.bench.proofs.bench.Bench.put_script.Goals as goal

pub invariant_of-self : goal.invariant_of-self
invariant_of-self c = (rw (c.in_err-put.ensures.err, c.in_err-put.ensures.unmarked) c.self.invariant.0, rw c.in_err-put.ensures.unmarked c.self.invariant.1)

pub invariant_of-self-2 : goal.invariant_of-self-2
invariant_of-self-2 c =
    let scripts = c.self.inside.scripts.scripts in (
      rw c.in_ok-put.ensures.ok
          (c.in_ok-put.ensures.forgotten.due (site_by c.self.inside.main c.self.inside.envelope c.self.inside.scripts) (with_script c.args.name c.args.text scripts)
          (λ other apart. sym (text-with_script c.args.name c.args.text other scripts apart)) c.self.invariant.0),
      c.in_ok-put.ensures.forgotten.ids,
    )

pub returns : goal.returns
returns c = (
  (
    rw (c.in_ok-put.ensures.ok, c.in_ok-put.ensures.forgotten.messages) (search rules),
    rw (← c.self.view_is, c.in_ok-put.ensures.forgotten.entries)
        (stale-marked (verdict_by (site_by c.self.inside.main c.self.inside.envelope c.self.inside.scripts)) c.args.name c.self.inside.messages.entries c.self.invariant.0 c.self.invariant.1),
  ),
  tt,
  search rules,
)
