-- The judgement of a script's text by a bench of a profile. It is the abstract script where the
-- text has no fault, or the line and kind of the first fault.
use Rattle.std.specs.Prelude.{ℕ, List, codes, Option, None, Some, Result, Ok, Err}
use Rattle.sieve_profile.specs.Profile.{Profile}
use Rattle.sieve_syntax.specs.Tree as syntax
use Rattle.sieve_syntax.specs.Syntax.{syntax_of}
use Rattle.sieve_check.specs.Breach as breaches
use Rattle.sieve_check.specs.Breach.{first_breach}
use Rattle.sieve_check.specs.Script.{script_of}
use Rattle.sieve_script.specs.Script.{Commands}
use Rattle.sieve_table.specs.Rule.{rule_word}
use Rattle.sieve_check.specs.declared.judged.FaultKind.{FaultKind}
use Rattle.sieve_check.specs.declared.judged.FaultKind.TheVariants.{Syntax, Breach}

pub data Judgement : Type 0 where
  sound : (script : Commands) → Judgement
  faulty : (line : ℕ) (kind : FaultKind) → Judgement

-- the word by which a report names a fault
abbrev pub fault_word : FaultKind → List ℕ
fault_word Syntax = codes "syntax"
fault_word (Breach rule) = rule_word rule

-- the line and the kind of the first fault, where there is one
abbrev pub fault_of : Judgement → Option (ℕ × FaultKind)
fault_of (sound _) = None
fault_of (faulty line kind) = Some (line, kind)

-- the first breach, or else the script
abbrev pub judgement_by : Option breaches.Breach → Commands → Judgement
judgement_by None script = sound script
judgement_by (Some breach) script = faulty breach.line (Breach breach.rule)

-- a text that no tree writes has a fault of syntax, on the line that the syntax says
abbrev pub judgement_from : Profile → Result (List syntax.Command) ℕ → Judgement
judgement_from profile (Ok tree) = judgement_by (first_breach profile tree) (script_of profile tree)
judgement_from profile (Err line) = faulty line Syntax

unfoldable pub judgement_of : Profile → List ℕ → Judgement
judgement_of profile text = judgement_from profile (syntax_of text)
