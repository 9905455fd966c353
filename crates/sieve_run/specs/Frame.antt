-- The part of a library of a profile that a verdict depends on. It is the texts at the names that
-- it looked up, and that there are none at the missing ones.
use Rattle.std.specs.Prelude.{◌≡◌, ℕ, Bool, true, List, Option}
use Rattle.sieve_delivery.specs.Delivery.{Arrival}
use Rattle.sieve_run.specs.Library.{library_of}
use Rattle.sieve_run.specs.Run.{is_looked_up, verdict_of}
use Rattle.sieve_verdict.specs.Verdict.{Verdict}
use Rattle.script_names.specs.declared.name.ScriptName.{ScriptName}

-- the texts of a library: one at each name, or none
abbrev pub LibraryTexts : Type 0
LibraryTexts = ScriptName → Option (List ℕ)

-- two libraries have the same text, or none, at each name that was looked up
abbrev pub Agree : (texts others : LibraryTexts) → List (ScriptName × Bool) → Type 0
Agree texts others lookups = (name : ScriptName) → is_looked_up name lookups ≡ true → texts name ≡ others name

-- the verdict over a library of the profile that the message is judged by
abbrev pub verdict_over : LibraryTexts → Option ScriptName → Arrival → Verdict
verdict_over texts main arrival = verdict_of (library_of arrival.profile texts) main arrival
