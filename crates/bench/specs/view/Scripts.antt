-- The model of the scripts of a bench.
use Rattle.std.specs.Prelude.{◌≡◌, ⊤, ℕ, List, [], ◌∷◌, map, Option}
use Rattle.std.specs.Option.{option_map}
use Rattle.script_names.specs.declared.name.ScriptName.{ScriptName}
use Rattle.sieve_profile.specs.Profile.{Profile}
use Rattle.sieve_run.specs.Script.{ScriptState}
use Rattle.bench.specs.Content.{text_at}

-- the profile of all scripts, and their names with their texts
pub record ScriptsState : Type 0 where
  pub profile : Profile
  pub scripts : List (ScriptName × List ℕ)

-- the names of scripts with their texts
unfoldable pub texts_of : List (ScriptName × ScriptState) → List (ScriptName × List ℕ)
texts_of entries = map (λ e. (e.0, e.1.text)) entries

-- all scripts are of this profile
unfoldable pub AreOf : Profile → List (ScriptName × ScriptState) → Type 0
AreOf profile [] = ⊤
AreOf profile (e ∷ es) = (e.1.profile ≡ profile) × AreOf profile es

-- the script of that name
abbrev pub script_at : ScriptsState → ScriptName → Option ScriptState
script_at state name = option_map (λ text. record { profile = state.profile; text = text }) (text_at state.scripts name)
