use Rattle.std.proofs.Common.{◌≡◌, drop, find}
use Rattle.sieve_check.specs.Breach.{text_breaks}
use Rattle.sieve_check.specs.view.Context.{context_as}
use Rattle.sieve_check.proofs.arguments.first_broken.Given as goal

-- the first rule that the string breaks among those that are left is the first that
-- it breaks of all
abbrev pub invariant-loop-rule : goal.invariant-loop-rule
invariant-loop-rule l = find (text_breaks (context_as l.context) l.role l.octets) (drop l.rule-index l.rules) ≡ find (text_breaks (context_as l.context) l.role l.octets) l.rules
