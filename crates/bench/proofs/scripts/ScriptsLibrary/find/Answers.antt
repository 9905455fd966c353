use Rattle.std.proofs.Common.{None, Some, rules, sym, ap, subst, ◌∙◌}
use Rattle.std.specs.BTreeMap as tree
use Rattle.std.specs.Option.{option_copied}
use Rattle.script_names.specs.Name.{name_cmp}
use Rattle.sieve_run.specs.Library.{Lookup}
use Rattle.sieve_run.specs.view.Found.{FoundAs}
use Rattle.bench.specs.view.Scripts.{ScriptsState, script_at}
use Rattle.bench.proofs.Texts.{found-whole, found_alike, looked-up}
use Rattle.bench.proofs.scripts.ScriptsLibrary.find.Goals as goal

pub returns-in-None : goal.returns-in-None
returns-in-None c =
    let name = c.args.name.now in
    let es = c.self.inside.by_name.entries in
    let found =
    ap option_copied (sym c.in-None.is)
    ∙ c.get.ensures.value
    ∙ found_alike _ (name_cmp name) es (λ other. search rules)
    ∙ found-whole c.self.inside.profile (tree.is_at (name_cmp name)) es c.self.invariant
    ∙ ap (λ (s : ScriptsState). script_at s name) c.self.view_is in
    looked-up c.args.self.now name None found

pub returns-in-Some : goal.returns-in-Some
returns-in-Some c =
    let name = c.args.name.now in
    let es = c.self.inside.by_name.entries in
    let found =
    ap option_copied (sym c.in-Some.is)
    ∙ c.get.ensures.value
    ∙ found_alike _ (name_cmp name) es (λ other. search rules)
    ∙ found-whole c.self.inside.profile (tree.is_at (name_cmp name)) es c.self.invariant
    ∙ ap (λ (s : ScriptsState). script_at s name) c.self.view_is in
    subst (λ (l : Lookup). FoundAs c.found.result l) (sym (looked-up c.args.self.now name (Some c.in-Some.script.now) found)) c.found.ensures
