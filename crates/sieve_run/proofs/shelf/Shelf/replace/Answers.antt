use Rattle.std.proofs.Common.{◌≡◌, ℕ, List, [], ◌∷◌, if◌then◌else◌, refl, sym, ap, subst, ◌∙◌}
use Rattle.indexmap.specs.IndexMap.{insert_entry}
use Rattle.script_names.specs.Name.{name_eq}
use Rattle.script_names.specs.contracts.name.ScriptNamePartialEq.TheImpl as equality
use Rattle.script_names.specs.declared.name.ScriptName.{ScriptName}
use Rattle.sieve_profile.specs.Profile.{Profile}
use Rattle.sieve_run.specs.Shelf.{ShelfState, with_text}
use Rattle.sieve_run.specs.view.Entry.{AreEntries, IsEntry, entry_text, texts_of}
use Rattle.sieve_run.proofs.Entries.{are-insert, texts-insert}
use Rattle.sieve_run.proofs.LookedUp.{names_alike}
use Rattle.sieve_run.proofs.shelf.Shelf.replace.Goals as goal

-- the test of the names' type puts an entry at the same place as the test of the definition
put_alike : {V : Type 0} (names : List (ScriptName × V)) (name : ScriptName) (text : V) → insert_entry equality.eq-value.it names name text ≡ insert_entry name_eq names name text
put_alike [] name text = refl
put_alike (e ∷ es) name text =
    ap (λ b. if b then (e.0, text) ∷ es else e ∷ insert_entry equality.eq-value.it es name text) (names_alike name e.0)
    ∙ ap (λ l. if name_eq name e.0 then (e.0, text) ∷ es else e ∷ l) (put_alike es name text)

abbrev shelf_of : Profile → List (ScriptName × List ℕ) → ShelfState
shelf_of profile scripts = record { profile = profile; scripts = scripts }

pub returns-clause-ok : goal.returns-clause-ok
returns-clause-ok c =
    let es = c.self.inside.scripts.entries in
    ap (shelf_of c.self.inside.profile)
    (ap texts_of c.in_ok-insert.ensures.entries
    ∙ texts-insert equality.eq-value.it es c.args.name c.args.entry
    ∙ put_alike (texts_of es) c.args.name (entry_text c.args.entry))
    ∙ ap (λ (s : ShelfState). shelf_of s.profile (with_text c.args.name (entry_text c.args.entry) s.scripts)) c.self.view_is

pub invariant_of-self-2 : goal.invariant_of-self-2
invariant_of-self-2 c =
    let es = c.self.inside.scripts.entries in
    let profile = c.self.inside.profile in
    subst (AreEntries profile) (sym c.in_ok-insert.ensures.entries)
    (are-insert profile equality.eq-value.it es c.args.name c.args.entry c.self.invariant (subst (λ (s : ShelfState). IsEntry s.profile c.args.entry) (sym c.self.view_is) c.requires))
