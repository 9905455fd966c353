-- The part of a text's judgement that is kept.
use Rattle.std.specs.Prelude.{◌≡◌, List}
use Rattle.sieve_check.specs.Judgement.{Judgement, sound, faulty}
use Rattle.sieve_code.specs.Compiles.{Compiles}
use Rattle.sieve_code.specs.Operation.{Operation}
use Rattle.sieve_code.specs.view.Code.{ops_of}
use Rattle.sieve_run.specs.declared.script.Compiled.{Compiled}
use Rattle.sieve_run.specs.declared.script.Compiled.TheVariants as compiled

-- the text is sound, and these operations are the code of its script
abbrev pub IsSound : List Operation → Judgement → Type 0
IsSound ops (sound program) = Compiles program ops
IsSound ops (faulty line kind) = ⊥

abbrev pub CompiledFrom : Compiled → Judgement → Type 0
CompiledFrom (compiled.Sound code) judgement = IsSound (ops_of code) judgement
CompiledFrom (compiled.Faulty line kind) judgement = judgement ≡ faulty line kind
