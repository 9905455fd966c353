use Rattle.std.proofs.Common.{◌≡◌, ◌++◌, ℕ, List, drop, map}
use Rattle.sieve_delivery.specs.State.{actions_in}
use Rattle.sieve_delivery.specs.view.Actions.{entries_as}
use Rattle.sieve_verdict.specs.Lines.{action_line, says}
use Rattle.sieve_verdict.proofs.agreement.after_actions.Given as goal

-- the rest says the lines of the actions that are left exactly if the text says those of all
-- actions
abbrev pub invariant-loop-entry : goal.invariant-loop-entry
invariant-loop-entry l = (wanted : List (List ℕ)) → says l.left (map action_line (actions_in (entries_as (drop l.entry-index l.entries))) ++ wanted) ≡ says l.text (map action_line (actions_in (entries_as l.entries)) ++ wanted)
