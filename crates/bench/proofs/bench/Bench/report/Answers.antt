use Rattle.std.proofs.Common.{◌≡◌, List, Option, ap, [], ℕ, option_copied, subst, rules}
use Rattle.devices.specs.Writers.{Wrote, WroteFront}
use Rattle.bench.specs.Content.{Content}
use Rattle.script_names.specs.declared.name.ScriptName.{ScriptName}
use Rattle.bench.specs.view.Site.{site_by}
use Rattle.bench.specs.view.Entry.{messages_of, stale_of}
use Rattle.bench.proofs.Judged.{report_is}
use Rattle.bench.proofs.bench.Bench.report.Goals as goal
use Rattle.bench.proofs.bench.Bench.report.Goals.{in-Ok, in-Err}

pub returns-clause-ok : goal.returns-clause-ok
returns-clause-ok g c =
    let content : Content = record { profile = c.self.inside.scripts.profile; main = c.self.inside.main; envelope = c.self.inside.envelope; scripts = c.self.inside.scripts.scripts; messages = messages_of c.self.inside.messages.entries } in
    let none : stale_of c.run_stale.new.messages.entries ≡ [] = search rules in
    elim c.match-write_report.branch [
      | in-Ok w ↦
          rw (w.result-is, ← c.self.view_is) (subst (λ (text : List ℕ). Wrote g.W.Sink.contents g.W.Faults.fault_count c.args.writer.now c.write_report.new.writer text)
          (report_is content (site_by (option_copied c.as_ref.result) c.self.inside.envelope c.self.inside.scripts) c.run_stale.new.messages.entries (ap (λ (m : Option ScriptName). site_by m c.self.inside.envelope c.self.inside.scripts) c.as_ref.ensures.value) c.run_stale.ensures.messages c.run_stale.ensures.due none) w.in-Ok.ensures)
      | in-Err w ↦ rw w.result-is tt
    ]

pub returns-clause-err : goal.returns-clause-err
returns-clause-err g c =
    let content : Content = record { profile = c.self.inside.scripts.profile; main = c.self.inside.main; envelope = c.self.inside.envelope; scripts = c.self.inside.scripts.scripts; messages = messages_of c.self.inside.messages.entries } in
    let none : stale_of c.run_stale.new.messages.entries ≡ [] = search rules in
    elim c.match-write_report.branch [
      | in-Ok w ↦ rw w.result-is tt
      | in-Err w ↦
          rw (w.result-is, ← c.self.view_is) (subst (λ (text : List ℕ). WroteFront g.W.Sink.contents g.W.Faults.fault_count c.args.writer.now c.write_report.new.writer text)
          (report_is content (site_by (option_copied c.as_ref.result) c.self.inside.envelope c.self.inside.scripts) c.run_stale.new.messages.entries (ap (λ (m : Option ScriptName). site_by m c.self.inside.envelope c.self.inside.scripts) c.as_ref.ensures.value) c.run_stale.ensures.messages c.run_stale.ensures.due none) w.in-Err.ensures)
    ]
