-- The entries of a shelf.
use Rattle.std.specs.Prelude.{◌≡◌, ⊤, ℕ, ◌<◌, List, [], ◌∷◌, length, map}
use Rattle.sieve_limits.specs.Limits.{text_limit}
use Rattle.script_names.specs.declared.name.ScriptName.{ScriptName}
use Rattle.sieve_profile.specs.Profile.{Profile}
use Rattle.sieve_run.specs.declared.shelf.Shelved.{Shelved}
use Rattle.sieve_run.specs.declared.shelf.Shelved.TheVariants.{Script, TooLong}

-- the text of an entry
abbrev pub entry_text : Shelved → List ℕ
entry_text (Script script) = script.text
entry_text (TooLong text) = text

-- A script is of the profile. A text that isn't a script's is past the limit.
abbrev pub IsEntry : Profile → Shelved → Type 0
IsEntry profile (Script script) = script.profile ≡ profile
IsEntry profile (TooLong text) = text_limit < length text

-- the names of entries with their texts
unfoldable pub texts_of : List (ScriptName × Shelved) → List (ScriptName × List ℕ)
texts_of entries = map (λ e. (e.0, entry_text e.1)) entries

unfoldable pub AreEntries : Profile → List (ScriptName × Shelved) → Type 0
AreEntries profile [] = ⊤
AreEntries profile (e ∷ es) = IsEntry profile e.1 × AreEntries profile es
