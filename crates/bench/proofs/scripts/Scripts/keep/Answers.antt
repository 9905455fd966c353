use Rattle.std.proofs.Common.{◌≡◌, rules, sym, ap, subst, ◌∙◌}
use Rattle.std.specs.BTreeMap.Entry.{entry_key, map_with_value}
use Rattle.std.specs.declared.cmp.Ordering.TheVariants.{Equal}
use Rattle.script_names.specs.Name.{name_cmp}
use Rattle.script_names.specs.declared.name.ScriptName.{ScriptName}
use Rattle.bench.specs.Content.{with_script}
use Rattle.bench.specs.view.Scripts.{AreOf, ScriptsState, texts_of}
use Rattle.bench.specs.view.Site.{ForgetsReaders}
use Rattle.bench.proofs.Names.{tied_names}
use Rattle.bench.proofs.Texts.{inserted_alike, of-insert, scripts_of, texts-insert}
use Rattle.bench.proofs.scripts.Scripts.keep.Goals as goal

pub invariant_of-self-2 : goal.invariant_of-self-2
invariant_of-self-2 c =
    let es = c.self.inside.by_name.entries in
    let profile = c.self.inside.profile in
    let of : c.args.script.profile ≡ profile = c.requires ∙ sym (ap (λ (s : ScriptsState). s.profile) c.self.view_is) in
    let again = c.insert_entry.ensures.4 c.into_mut.result.now in
    let last : c.self-3-1.given.0 ≡ map_with_value c.in_ok-entry.entry c.into_mut.result.now = search (rules, again) in
    let value : c.into_mut.result.now ≡ c.args.script = (let was = c.insert_entry.ensures.2 in let is = c.into_mut.ensures.value in cc) in
    let entries = ap (λ m. m.entries) last ∙ c.in_ok-entry.ensures.update.1 c.into_mut.result.now in
    subst (AreOf profile) (sym entries) (rw value (of-insert _ c.args.name c.args.script profile es of c.self.invariant))

pub returns-clause-ok : goal.returns-clause-ok
returns-clause-ok c =
    let es = c.self.inside.by_name.entries in
    let again = c.insert_entry.ensures.4 c.into_mut.result.now in
    let last : c.self-3-1.given.0 ≡ map_with_value c.in_ok-entry.entry c.into_mut.result.now = search (rules, again) in
    let value : c.into_mut.result.now ≡ c.args.script = (let was = c.insert_entry.ensures.2 in let is = c.into_mut.ensures.value in cc) in
    let entries = ap (λ m. m.entries) last ∙ c.in_ok-entry.ensures.update.1 c.into_mut.result.now in
    ap (scripts_of c.self.inside.profile)
    (ap texts_of entries
    ∙ rw value (texts-insert _ c.args.name c.args.script es
    ∙ inserted_alike _ name_cmp (texts_of es) c.args.name c.args.script.text (λ a b. search rules)))
    ∙ ap (λ (s : ScriptsState). scripts_of s.profile (with_script c.args.name c.args.script.text s.scripts)) c.self.view_is

pub returns-clause-forgotten : goal.returns-clause-forgotten
returns-clause-forgotten c =
    let key = c.in_ok-entry.ensures.same_key in
    let tied : name_cmp c.args.name (entry_key c.in_ok-entry.entry) ≡ Equal = search (rules, key) in
    let is : c.args.name ≡ c.key.result.now = tied_names c.args.name (entry_key c.in_ok-entry.entry) tied ∙ sym c.key.ensures in
    subst (λ (name : ScriptName). ForgetsReaders name c.args.messages.now.entries c.forget_readers.new.messages.entries) (sym is) c.forget_readers.ensures.forgotten
