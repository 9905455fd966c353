use Rattle.std.proofs.Common.{Some, rules, sym, ap, ◌∙◌}
use Rattle.std.specs.BTreeMap as tree
use Rattle.std.specs.Option.{option_copied}
use Rattle.script_names.specs.Name.{name_cmp}
use Rattle.bench.specs.view.Scripts.{ScriptsState, script_at}
use Rattle.bench.proofs.Texts.{found-whole, found_alike}
use Rattle.bench.proofs.scripts.Scripts.copied.Goals as goal

pub returns-in_ok-copy-in-Some : goal.returns-in_ok-copy-in-Some
returns-in_ok-copy-in-Some c =
    let name = c.args.name.now in
    let es = c.self.inside.by_name.entries in
    ap Some c.in_ok-copy-in-Some.ensures
    ∙ ap option_copied (sym c.in-Some.is)
    ∙ c.get.ensures.value
    ∙ found_alike _ (name_cmp name) es (λ other. search rules)
    ∙ found-whole c.self.inside.profile (tree.is_at (name_cmp name)) es c.self.invariant
    ∙ ap (λ (s : ScriptsState). script_at s name) c.self.view_is

pub returns-in-None : goal.returns-in-None
returns-in-None c =
    let name = c.args.name.now in
    let es = c.self.inside.by_name.entries in
    ap option_copied (sym c.in-None.is)
    ∙ c.get.ensures.value
    ∙ found_alike _ (name_cmp name) es (λ other. search rules)
    ∙ found-whole c.self.inside.profile (tree.is_at (name_cmp name)) es c.self.invariant
    ∙ ap (λ (s : ScriptsState). script_at s name) c.self.view_is
