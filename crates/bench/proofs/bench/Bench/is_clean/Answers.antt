use Rattle.std.proofs.Common.{◌≡◌, ◌∙◌, [], Option, option_copied, ap, subst, sym, refl, rules}
use Rattle.bench.specs.Content.{Content}
use Rattle.script_names.specs.declared.name.ScriptName.{ScriptName}
use Rattle.bench.specs.view.Site.{site_by}
use Rattle.bench.specs.view.Entry.{KeepsDue, messages_of, stale_of}
use Rattle.bench.specs.Report.{Site, site_of, verdict_by}
use Rattle.bench.proofs.Judged.{clean_is}
use Rattle.bench.proofs.bench.Bench.is_clean.Goals as goal

pub returns : goal.returns
returns c =
    let content : Content = record { profile = c.self.inside.scripts.profile; main = c.self.inside.main; envelope = c.self.inside.envelope; scripts = c.self.inside.scripts.scripts; messages = messages_of c.self.inside.messages.entries } in
    let none : stale_of c.self.inside.messages.entries ≡ [] = search rules in
    let site : Site = site_by (option_copied c.as_ref.result) c.self.inside.envelope c.self.inside.scripts in
    let same : site ≡ site_of content = ap (λ (m : Option ScriptName). site_by m c.self.inside.envelope c.self.inside.scripts) c.as_ref.ensures.value in
    let kept : KeepsDue (verdict_by site) c.self.inside.messages.entries = subst (λ (s : Site). KeepsDue (verdict_by s) c.self.inside.messages.entries) (sym same) c.self.invariant.0 in
    rw (← c.self.view_is) (c.is_clean.ensures ∙ clean_is content site c.self.inside.messages.entries same refl kept none)
