-- Code as it is printed.
use Rattle.std.specs.Prelude.{◌≡◌, ℕ, ◌+◌, Bool, true, false, ◌||◌, nat_lt, List, [], ◌∷◌, ◌++◌, length}
use Rattle.sieve_limits.specs.Limits.{name_limit, text_limit}
use Rattle.sieve_check.specs.Judgement.{Judgement, judgement_of, sound, faulty}
use Rattle.sieve_script.specs.Script.{Commands}
use Rattle.sieve_code.specs.Choice.{code_of}
use Rattle.sieve_dump.specs.Dump.{line_text}
use Rattle.sieve_code.specs.Operation.{Operation}
use Rattle.script_names.specs.declared.name.ScriptName.{ScriptName}
use Rattle.sieve_profile.specs.Profile.{Profile}
use Rattle.bench.specs.Report.{script_line}
use Rattle.bench.specs.declared.test_end.TestEnd.{TestEnd}
use Rattle.bench.specs.declared.test_end.TestEnd.TheVariants as test

-- the lines of operations from a place on
unfoldable pub lines_from : ℕ → List Operation → List ℕ
lines_from place [] = []
lines_from place (op ∷ ops) = line_text place op ++ lines_from (place + 1) ops

-- the lines of code
abbrev pub code_text : List Operation → List ℕ
code_text ops = lines_from 0 ops

-- the lines of a script's code
abbrev pub script_code : Commands → List ℕ
script_code program = code_text (code_of program)

-- A TEXT BY ITSELF

-- whether a script's name or its text is past the limit
abbrev pub is_too_large : ScriptName → List ℕ → Bool
is_too_large name text = nat_lt name_limit (length name.name) || nat_lt text_limit (length text)

abbrev pub dump_text_by : Profile → ScriptName → List ℕ → Judgement → List ℕ
dump_text_by profile name text (sound program) = script_code program
dump_text_by profile name text (faulty line kind) = script_line profile (name, text)

-- The printed text of a script under a profile and a name. It is the script's code, or its line of
-- a report where it has a fault.
abbrev pub dump_text_of : Profile → ScriptName → List ℕ → List ℕ
dump_text_of profile name text = dump_text_by profile name text (judgement_of profile text)

-- how the printing of a text ends
abbrev pub dump_end_of : Judgement → TestEnd
dump_end_of (sound program) = test.Clean
dump_end_of (faulty line kind) = test.Faulty

-- How a dump ends. `whole` and `front` say that all or a front of a text was written, and `nothing`
-- that nothing was. `Clean` and `Faulty`: all of the dump's text was written, and this is the due
-- end. `TooLarge`: the name or the text is too large, and nothing was written. `Write`: a front of
-- the text was written. `NoMemory`: nothing was written. `Full` is no end of a dump.
abbrev pub DumpEnds : TestEnd → Profile → ScriptName → List ℕ → (List ℕ → Type 0) → (List ℕ → Type 0) → Type 0 → Type 0
DumpEnds test.Clean profile name text whole front nothing = (is_too_large name text ≡ false) × (dump_end_of (judgement_of profile text) ≡ test.Clean) × whole (dump_text_of profile name text)
DumpEnds test.Faulty profile name text whole front nothing = (is_too_large name text ≡ false) × (dump_end_of (judgement_of profile text) ≡ test.Faulty) × whole (dump_text_of profile name text)
DumpEnds test.TooLarge profile name text whole front nothing = (is_too_large name text ≡ true) × nothing
DumpEnds test.Full profile name text whole front nothing = ⊥
DumpEnds test.Write profile name text whole front nothing = (is_too_large name text ≡ false) × front (dump_text_of profile name text)
DumpEnds test.NoMemory profile name text whole front nothing = (is_too_large name text ≡ false) × nothing
