use Rattle.std.proofs.Common.{rules, sym, ap, subst, ◌∙◌}
use Rattle.script_names.specs.Name.{name_cmp}
use Rattle.bench.specs.Content.{without_script}
use Rattle.bench.specs.view.Scripts.{AreOf, ScriptsState, texts_of}
use Rattle.bench.proofs.Texts.{of-remove, removed_alike, scripts_of, texts-remove}
use Rattle.bench.proofs.scripts.Scripts.remove.Goals as goal

pub invariant_of-self : goal.invariant_of-self
invariant_of-self c =
    let es = c.self.inside.by_name.entries in
    let profile = c.self.inside.profile in
    subst (AreOf profile) (sym c.remove-removed.ensures.entries) (of-remove _ profile es c.self.invariant)

pub returns : goal.returns
returns c =
    let es = c.self.inside.by_name.entries in
    let name = c.args.name.now in
    ap (scripts_of c.self.inside.profile)
    (ap texts_of c.remove-removed.ensures.entries
    ∙ texts-remove _ es
    ∙ removed_alike _ (name_cmp name) (texts_of es) (λ other. search rules))
    ∙ ap (λ (s : ScriptsState). scripts_of s.profile (without_script name s.scripts)) c.self.view_is
