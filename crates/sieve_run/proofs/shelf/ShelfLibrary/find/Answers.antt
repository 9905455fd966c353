use Rattle.std.proofs.Common.{◌≡◌, ℕ, List, Option, None, Some, sym, ap, subst, ◌∙◌}
use Rattle.std.specs.Map.{lookup}
use Rattle.std.specs.Option.{option_copied}
use Rattle.script_names.specs.contracts.name.ScriptNamePartialEq.TheImpl as equality
use Rattle.sieve_run.specs.Library.{lookup_of, missing}
use Rattle.sieve_run.specs.Shelf.{ShelfState, text_on}
use Rattle.sieve_run.specs.declared.shelf.Shelved.{Shelved}
use Rattle.sieve_run.specs.view.Found.{FoundAs}
use Rattle.sieve_run.proofs.Entries.{is-found, text_found}
use Rattle.sieve_run.proofs.shelf.ShelfLibrary.find.Goals as goal

pub returns-in-None : goal.returns-in-None
returns-in-None c =
    let es = c.self.inside.scripts.entries in
    let name = c.args.name.now in
    let none : None ≡ lookup (equality.eq-value.it name) es = sym (ap option_copied c.in-None.is) ∙ c.get.ensures.value in
    subst (λ (s : ShelfState). lookup_of s.profile (text_on s.scripts name) ≡ missing) c.self.view_is
    (ap (lookup_of c.self.inside.profile) (text_found es name None none))

pub returns-in-Some : goal.returns-in-Some
returns-in-Some c =
    let es = c.self.inside.scripts.entries in
    let profile = c.self.inside.profile in
    let name = c.args.name.now in
    let entry : Shelved = c.in-Some.entry.now in
    let there : Some entry ≡ lookup (equality.eq-value.it name) es = sym (ap option_copied c.in-Some.is) ∙ c.get.ensures.value in
    subst (λ (s : ShelfState). FoundAs c.found.result (lookup_of s.profile (text_on s.scripts name))) c.self.view_is
    (subst (λ (text : Option (List ℕ)). FoundAs c.found.result (lookup_of profile text)) (sym (text_found es name (Some entry) there))
    (c.found.ensures profile (is-found profile (equality.eq-value.it name) es entry c.self.invariant (sym there))))
