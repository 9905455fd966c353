use Rattle.std.proofs.Common.{is_some, rules, ap, sym, ◌∙◌}
use Rattle.std.specs.BTreeMap as tree
use Rattle.script_names.specs.Name.{name_cmp}
use Rattle.bench.specs.Content.{text_at}
use Rattle.bench.specs.view.Scripts.{ScriptsState}
use Rattle.bench.proofs.Texts.{found_alike, is_some-texts}
use Rattle.bench.proofs.scripts.Scripts.contains.Goals as goal

pub returns : goal.returns
returns c =
    let name = c.args.name.now in
    c.contains_key.ensures
    ∙ ap is_some (found_alike _ (name_cmp name) c.self.inside.by_name.entries (λ other. search rules))
    ∙ sym (is_some-texts (tree.is_at (name_cmp name)) c.self.inside.by_name.entries)
    ∙ ap (λ (s : ScriptsState). is_some (text_at s.scripts name)) c.self.view_is
