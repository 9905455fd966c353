-- A list of scripts, each with its text, and the profile of them all.
use Rattle.std.specs.Prelude.{ℕ, List, Option}
use Rattle.std.specs.Map.{lookup}
use Rattle.indexmap.specs.IndexMap as ordered
use Rattle.script_names.specs.Name.{name_eq}
use Rattle.script_names.specs.declared.name.ScriptName.{ScriptName}
use Rattle.sieve_profile.specs.Profile.{Profile}

pub record ShelfState : Type 0 where
  pub profile : Profile
  -- the names with their texts
  pub scripts : List (ScriptName × List ℕ)

-- the text of the script of a name
abbrev pub text_on : List (ScriptName × List ℕ) → ScriptName → Option (List ℕ)
text_on scripts name = lookup (name_eq name) scripts

-- The scripts with this text at the name. It takes the place of the text there, or is last.
abbrev pub with_text : ScriptName → List ℕ → List (ScriptName × List ℕ) → List (ScriptName × List ℕ)
with_text name text scripts = ordered.insert_entry name_eq scripts name text
