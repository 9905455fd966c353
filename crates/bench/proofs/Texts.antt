-- Each edit of a bench's scripts is the same edit of their texts, and all stay of one profile.
use Rattle.std.proofs.Common.{◌≡◌, ℕ, List, [], ◌∷◌, ◌++◌, length, Bool, true, false, ◌&&◌, Option, Some, None, is_some, cond, refl, sym, ap, ap₂, ◌∙◌}
use Rattle.std.proofs.lemmas.List.{length-map}
use Rattle.std.proofs.lemmas.Map.Made.{lookup-map_values}
use Rattle.std.specs.BTreeMap as tree
use Rattle.std.specs.List.{flat_map, list_all}
use Rattle.std.specs.Map.{lookup, remove_entry}
use Rattle.std.specs.Option.{option_map}
use Rattle.std.specs.Ordering.{match_ordering}
use Rattle.std.specs.declared.cmp.Ordering.{Ordering}
use Rattle.std.specs.declared.cmp.Ordering.TheVariants.{Less, Equal, Greater}
use Rattle.script_names.specs.declared.name.ScriptName.{ScriptName}
use Rattle.sieve_check.specs.Judgement.{judgement_of}
use Rattle.sieve_profile.specs.Profile.{Profile}
use Rattle.sieve_run.specs.Library.{Lookup, lookup_of, missing}
use Rattle.sieve_run.specs.Script.{ScriptState}
use Rattle.bench.specs.Content.{text_at}
use Rattle.bench.specs.Report.{script_line}
use Rattle.bench.specs.Test.{is_sound}
use Rattle.bench.specs.view.Scripts.{AreOf, ScriptsState, script_at, texts_of}

-- a script's name with its text
abbrev pub text_of : ScriptName × ScriptState → ScriptName × List ℕ
text_of e = (e.0, e.1.text)

pub length-texts : (es : List (ScriptName × ScriptState)) → length (texts_of es) ≡ length es
unfolding texts_of
length-texts es = length-map es _

pub lookup-texts : (test : ScriptName → Bool) (es : List (ScriptName × ScriptState)) → lookup test (texts_of es) ≡ option_map (λ s. s.text) (lookup test es)
unfolding texts_of
lookup-texts test es = lookup-map_values _ test es

pub is_some-texts : (test : ScriptName → Bool) (es : List (ScriptName × ScriptState)) → is_some (lookup test (texts_of es)) ≡ is_some (lookup test es)
is_some-texts test es = ap is_some (lookup-texts test es) ∙ by (lookup test es)
  where
    by : (found : Option ScriptState) → is_some (option_map (λ s. s.text) found) ≡ is_some found
    by None = refl
    by (Some script) = refl

-- a lookup by one order of names finds the same as by another that is equal to it
pub found_alike : {V : Type 0} (order other : ScriptName → Ordering) (names : List (ScriptName × V)) → ((name : ScriptName) → order name ≡ other name)
    → lookup (tree.is_at order) names ≡ lookup (tree.is_at other) names
found_alike order other [] same = refl
found_alike order other (e ∷ es) same = rw (same e.0, found_alike order other es same) refl

pub removed_alike : {V : Type 0} (order other : ScriptName → Ordering) (names : List (ScriptName × V)) → ((name : ScriptName) → order name ≡ other name)
    → remove_entry (tree.is_at order) names ≡ remove_entry (tree.is_at other) names
removed_alike order other [] same = refl
removed_alike order other (e ∷ es) same = rw (same e.0, removed_alike order other es same) refl

pub inserted_alike : {V : Type 0} (cmp other : ScriptName → ScriptName → Ordering) (names : List (ScriptName × V)) (name : ScriptName) (value : V)
    → ((a b : ScriptName) → cmp a b ≡ other a b) → tree.insert_entry cmp names name value ≡ tree.insert_entry other names name value
inserted_alike cmp other [] name value same = refl
inserted_alike cmp other (e ∷ es) name value same = rw (same name e.0, inserted_alike cmp other es name value same) refl

-- scripts of a profile, by their texts
abbrev pub scripts_of : Profile → List (ScriptName × List ℕ) → ScriptsState
scripts_of profile scripts = record { profile = profile; scripts = scripts }

-- a script is put where its text is, and all scripts are of its profile
module _ (cmp : ScriptName → ScriptName → Ordering) (name : ScriptName) (script : ScriptState) where
  pub texts-insert : (es : List (ScriptName × ScriptState)) → texts_of (tree.insert_entry cmp es name script) ≡ tree.insert_entry cmp (texts_of es) name script.text
  unfolding texts_of
  texts-insert [] = refl
  texts-insert (e ∷ es) = by (cmp name e.0) (texts-insert es)
    where
      by : (r : Ordering) → texts_of (tree.insert_entry cmp es name script) ≡ tree.insert_entry cmp (texts_of es) name script.text
          → texts_of (match_ordering r ((name, script) ∷ e ∷ es) ((e.0, script) ∷ es) (e ∷ tree.insert_entry cmp es name script))
          ≡ match_ordering r ((name, script.text) ∷ text_of e ∷ texts_of es) ((e.0, script.text) ∷ texts_of es) (text_of e ∷ tree.insert_entry cmp (texts_of es) name script.text)
      by Less rest = refl
      by Equal rest = refl
      by Greater rest = ap (λ l. text_of e ∷ l) rest

  pub of-insert : (profile : Profile) (es : List (ScriptName × ScriptState)) → script.profile ≡ profile → AreOf profile es → AreOf profile (tree.insert_entry cmp es name script)
  unfolding AreOf
  of-insert profile [] is all = (is, tt)
  of-insert profile (e ∷ es) is all = by (cmp name e.0) (of-insert profile es is all.1)
    where
      by : (r : Ordering) → AreOf profile (tree.insert_entry cmp es name script)
          → AreOf profile (match_ordering r ((name, script) ∷ e ∷ es) ((e.0, script) ∷ es) (e ∷ tree.insert_entry cmp es name script))
      by Less rest = (is, all)
      by Equal rest = (is, all.1)
      by Greater rest = (all.0, rest)

-- a script is removed as its text is
module _ (test : ScriptName → Bool) where
  pub texts-remove : (es : List (ScriptName × ScriptState)) → texts_of (remove_entry test es) ≡ remove_entry test (texts_of es)
  unfolding texts_of
  texts-remove [] = refl
  texts-remove (e ∷ es) = by (test e.0) (texts-remove es)
    where
      by : (b : Bool) → texts_of (remove_entry test es) ≡ remove_entry test (texts_of es)
          → texts_of (cond b es (e ∷ remove_entry test es)) ≡ cond b (texts_of es) (text_of e ∷ remove_entry test (texts_of es))
      by true rest = refl
      by false rest = ap (λ l. text_of e ∷ l) rest

  pub of-remove : (profile : Profile) (es : List (ScriptName × ScriptState)) → AreOf profile es → AreOf profile (remove_entry test es)
  unfolding AreOf
  of-remove profile [] all = tt
  of-remove profile (e ∷ es) all = by (test e.0) (of-remove profile es all.1)
    where
      by : (b : Bool) → AreOf profile (remove_entry test es) → AreOf profile (cond b es (e ∷ remove_entry test es))
      by true rest = all.1
      by false rest = (all.0, rest)

-- a script that is found is of the profile
pub of-found : (profile : Profile) (test : ScriptName → Bool) (es : List (ScriptName × ScriptState)) (script : ScriptState) → AreOf profile es → lookup test es ≡ Some script → script.profile ≡ profile
unfolding AreOf
of-found profile test [] script all found = absurd cc
of-found profile test (e ∷ es) script all found = by (test e.0) found (of-found profile test es script all.1)
  where
    by : (b : Bool) → cond b (Some e.1) (lookup test es) ≡ Some script → (lookup test es ≡ Some script → script.profile ≡ profile) → script.profile ≡ profile
    by true is rest = let same : e.1 ≡ script = cc in ap (λ (s : ScriptState). s.profile) (let back : script ≡ e.1 = cc in back) ∙ all.0
    by false is rest = rest is

-- of the scripts of a profile, one is found with its text and the profile
pub found-whole : (profile : Profile) (test : ScriptName → Bool) (es : List (ScriptName × ScriptState)) → AreOf profile es
    → lookup test es ≡ option_map (λ text. record { profile = profile; text = text }) (lookup test (texts_of es))
unfolding AreOf texts_of
found-whole profile test [] all = refl
found-whole profile test (e ∷ es) all = by (test e.0) (found-whole profile test es all.1)
  where
    by : (b : Bool) → lookup test es ≡ option_map (λ text. record { profile = profile; text = text }) (lookup test (texts_of es))
        → cond b (Some e.1) (lookup test es) ≡ option_map (λ text. record { profile = profile; text = text }) (cond b (Some e.1.text) (lookup test (texts_of es)))
    by true rest = ap (λ (p : Profile). Some (record { profile = p; text = e.1.text })) all.0
    by false rest = rest

-- the line of a script in a report, by its own profile
abbrev pub own_line : ScriptName × ScriptState → List ℕ
own_line e = script_line (e.1.profile) (text_of e)

pub lines-texts : (profile : Profile) (es : List (ScriptName × ScriptState)) → AreOf profile es → flat_map own_line es ≡ flat_map (script_line profile) (texts_of es)
unfolding AreOf texts_of
lines-texts profile [] all = refl
lines-texts profile (e ∷ es) all =
    ap₂ (λ (p : Profile) (l : List ℕ). script_line p (text_of e) ++ l) all.0 (lines-texts profile es all.1)

-- whether a script has no fault, by its own profile
abbrev pub is_own_sound : ScriptName × ScriptState → Bool
is_own_sound e = is_sound (judgement_of (e.1.profile) e.1.text)

pub sound-texts : (profile : Profile) (es : List (ScriptName × ScriptState)) → AreOf profile es
    → list_all is_own_sound es ≡ list_all (λ e. is_sound (judgement_of profile e.1)) (texts_of es)
unfolding AreOf texts_of
sound-texts profile [] all = refl
sound-texts profile (e ∷ es) all =
    ap₂ (λ (p : Profile) (b : Bool). is_sound (judgement_of p e.1.text) && b) all.0 (sound-texts profile es all.1)

-- a library of these scripts has at a name the lookup of the script that is there
abbrev pub lookup_by : Option ScriptState → Lookup
lookup_by None = missing
lookup_by (Some script) = lookup_of script.profile (Some script.text)

pub looked-up : (state : ScriptsState) (name : ScriptName) (found : Option ScriptState) → found ≡ script_at state name
    → lookup_of state.profile (text_at state.scripts name) ≡ lookup_by found
looked-up state name found is = by (text_at state.scripts name) is
  where
    by : (text : Option (List ℕ)) → found ≡ option_map (λ t. record { profile = state.profile; text = t }) text → lookup_of state.profile text ≡ lookup_by found
    by None at = ap lookup_by (sym at)
    by (Some text) at = ap lookup_by (sym at)

-- the script of a name is of the profile of all
pub profile_at : (state : ScriptsState) (name : ScriptName) (script : ScriptState) → Some script ≡ script_at state name → script.profile ≡ state.profile
profile_at state name script is = by_text (text_at state.scripts name) is
  where
    one_of : (a b : ScriptState) → Some a ≡ Some b → a ≡ b
    one_of a b e = cc

    some_none : Some script ≡ None → ⊥
    some_none e = cc

    by_text : (text : Option (List ℕ)) → Some script ≡ option_map (λ t. record { profile = state.profile; text = t }) text → script.profile ≡ state.profile
    by_text None e = absurd (some_none e)
    by_text (Some text) e = ap (λ (s : ScriptState). s.profile) (one_of script (record { profile = state.profile; text = text }) e)
