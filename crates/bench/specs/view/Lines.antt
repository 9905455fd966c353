-- The lines of a verdict in a report, one by one.
use Rattle.std.specs.Prelude.{ℕ, Bool, true, false, List, [], ◌++◌, Option, None, Some}
use Rattle.std.specs.List.{flat_map}
use Rattle.script_names.specs.declared.name.ScriptName.{ScriptName}
use Rattle.sieve_delivery.specs.declared.action.Action.{Action}
use Rattle.sieve_delivery.specs.declared.error.RunError.{RunError}
use Rattle.sieve_delivery.specs.State.{Entered}
use Rattle.sieve_verdict.specs.Lines.{action_line, error_line, implicit_line, origin_line, lookup_line}
use Rattle.sieve_verdict.specs.Verdict.{Verdict}
use Rattle.bench.specs.Report.{indented}

abbrev pub action_text : Action → List ℕ
action_text action = indented (action_line action)

-- the line of an action, and that of the command that entered it where that is traced
abbrev pub told_text : (traced : Bool) → Entered → List ℕ
told_text false entry = action_text entry.action
told_text true entry = action_text entry.action ++ indented (origin_line entry.origin)

abbrev pub implicit_text : (mailbox : List ℕ) → Option (List (List ℕ)) → List ℕ
implicit_text mailbox None = []
implicit_text mailbox (Some flags) = indented (implicit_line mailbox flags)

abbrev pub error_text : Option RunError → List ℕ
error_text None = []
error_text (Some error) = indented (error_line error)

abbrev pub lookup_text : ScriptName × Bool → List ℕ
lookup_text read = indented (lookup_line read)

-- a verdict's lines in a report, as the program writes them in turn
unfoldable pub verdict_texts : (traced : Bool) → (mailbox : List ℕ) → Verdict → List ℕ
verdict_texts traced mailbox verdict = flat_map (told_text traced) verdict.entries ++ (implicit_text mailbox verdict.implicit ++ (error_text verdict.error ++ flat_map lookup_text verdict.lookups))
