-- The script that a library has at a name, by its profile and the text there.
use Rattle.std.specs.Prelude.{ℕ, List, length, Option, None, Some, if◌then◌else◌, nat_lt}
use Rattle.sieve_script.specs.Script.{Commands}
use Rattle.sieve_limits.specs.Limits.{text_limit, name_limit}
use Rattle.sieve_profile.specs.Profile.{Profile}
use Rattle.sieve_check.specs.Judgement.{Judgement, judgement_of, sound, faulty}
use Rattle.sieve_code.specs.Compiles.{Compiles}
use Rattle.sieve_code.specs.Operation.{Operation}
use Rattle.script_names.specs.declared.name.ScriptName.{ScriptName}

-- no text, a text with a fault, or the abstract script of a text without one
pub data Lookup : Type 0 where
  missing : Lookup
  invalid : Lookup
  present : (program : Commands) → Lookup

-- there is a script, and these operations are its code
abbrev pub HasCode : Lookup → List Operation → Type 0
HasCode missing ops = ⊥
HasCode invalid ops = ⊥
HasCode (present program) ops = Compiles program ops

-- a text with a fault is invalid
abbrev pub lookup_of_judgement : Judgement → Lookup
lookup_of_judgement (sound program) = present program
lookup_of_judgement (faulty line kind) = invalid

-- The script that is found under a profile, by the text that is there, or none. A text past the
-- limit counts as faulty.
abbrev pub lookup_of : Profile → Option (List ℕ) → Lookup
lookup_of profile None = missing
lookup_of profile (Some text) = if nat_lt text_limit (length text) then invalid else lookup_of_judgement (judgement_of profile text)

-- the scripts that a library of a profile has at each name, by the texts there
abbrev pub library_of : Profile → (ScriptName → Option (List ℕ)) → ScriptName → Lookup
library_of profile texts = λ name. lookup_of profile (texts name)

-- The script that a run finds. A name past the limit is missing, whatever a library has there.
abbrev pub found_at : (ScriptName → Lookup) → ScriptName → Lookup
found_at find name = if nat_lt name_limit (length name.name) then missing else find name
