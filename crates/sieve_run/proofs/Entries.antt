-- A change of the entries of a shelf changes their texts alike. All entries stay of the shelf's
-- profile.
use Rattle.std.proofs.Common.{◌≡◌, List, [], ◌∷◌, Bool, true, false, Option, Some, cond, if◌then◌else◌, refl, sym, ap, subst, ◌∙◌}
use Rattle.std.proofs.lemmas.Map.Made.{lookup-map_values}
use Rattle.std.specs.Map.{lookup}
use Rattle.std.specs.Option.{option_map}
use Rattle.indexmap.specs.IndexMap as ordered
use Rattle.script_names.specs.Name.{name_eq}
use Rattle.script_names.specs.contracts.name.ScriptNamePartialEq.TheImpl as equality
use Rattle.script_names.specs.declared.name.ScriptName.{ScriptName}
use Rattle.sieve_profile.specs.Profile.{Profile}
use Rattle.sieve_run.specs.Shelf.{text_on}
use Rattle.sieve_run.specs.declared.shelf.Shelved.{Shelved}
use Rattle.sieve_run.specs.view.Entry.{AreEntries, IsEntry, entry_text, texts_of}
use Rattle.sieve_run.proofs.LookedUp.{names_alike}

-- the text of a name is that of its entry
pub texts-lookup : (test : ScriptName → Bool) (es : List (ScriptName × Shelved)) → lookup test (texts_of es) ≡ option_map entry_text (lookup test es)
unfolding texts_of
texts-lookup test es = lookup-map_values _ test es

-- the text at a name is that of the entry that is found by the test of the names' type
pub text_found : (es : List (ScriptName × Shelved)) (name : ScriptName) (found : Option Shelved) → found ≡ lookup (equality.eq-value.it name) es → text_on (texts_of es) name ≡ option_map entry_text found
text_found es name found is =
    texts-lookup (name_eq name) es
    ∙ ap (option_map entry_text) (sym (is ∙ ap (λ (test : ScriptName → Bool). lookup test es) (λ i other. names_alike name other i)))

-- an entry is put at the place where its text is put
pub texts-insert : (eq : ScriptName → ScriptName → Bool) (es : List (ScriptName × Shelved)) (name : ScriptName) (entry : Shelved)
    → texts_of (ordered.insert_entry eq es name entry) ≡ ordered.insert_entry eq (texts_of es) name (entry_text entry)
unfolding texts_of
texts-insert eq [] name entry = refl
texts-insert eq ((other, old) ∷ es) name entry = by (eq name other) (texts-insert eq es name entry)
  where
    by : (b : Bool) → texts_of (ordered.insert_entry eq es name entry) ≡ ordered.insert_entry eq (texts_of es) name (entry_text entry)
        → texts_of (if b then (other, entry) ∷ es else (other, old) ∷ ordered.insert_entry eq es name entry)
        ≡ (if b then (other, entry_text entry) ∷ texts_of es else (other, entry_text old) ∷ ordered.insert_entry eq (texts_of es) name (entry_text entry))
    by true rest = refl
    by false rest = ap (λ l. (other, entry_text old) ∷ l) rest

-- entries of a profile stay so if an entry of the profile is put among them
pub are-insert : (profile : Profile) (eq : ScriptName → ScriptName → Bool) (es : List (ScriptName × Shelved)) (name : ScriptName) (entry : Shelved)
    → AreEntries profile es → IsEntry profile entry → AreEntries profile (ordered.insert_entry eq es name entry)
unfolding AreEntries
are-insert profile eq [] name entry are is = (is, tt)
are-insert profile eq (e ∷ es) name entry are is = by (eq name e.0) (are-insert profile eq es name entry are.1 is)
  where
    by : (b : Bool) → AreEntries profile (ordered.insert_entry eq es name entry) → AreEntries profile (if b then (e.0, entry) ∷ es else e ∷ ordered.insert_entry eq es name entry)
    by true rest = (is, are.1)
    by false rest = (are.0, rest)

-- an entry that is found is of the profile of them all
pub is-found : (profile : Profile) (test : ScriptName → Bool) (es : List (ScriptName × Shelved)) (entry : Shelved) → AreEntries profile es → lookup test es ≡ Some entry → IsEntry profile entry
unfolding AreEntries
is-found profile test [] entry are there = absurd cc
is-found profile test (e ∷ es) entry are there = by (test e.0) there (λ h. is-found profile test es entry are.1 h)
  where
    by : (b : Bool) → cond b (Some e.1) (lookup test es) ≡ Some entry → (lookup test es ≡ Some entry → IsEntry profile entry) → IsEntry profile entry
    by true there rest = let same : e.1 ≡ entry = cc in subst (IsEntry profile) same are.0
    by false there rest = rest there
