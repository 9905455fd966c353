use Rattle.std.proofs.Common.{◌≡◌, map, drop}
use Rattle.sieve_syntax.specs.view.Tree.{argument_of}
use Rattle.sieve_check.specs.Breach.{breaches_in}
use Rattle.sieve_check.specs.Element.{labelled_elements}
use Rattle.sieve_check.specs.view.Context.{context_as}
use Rattle.sieve_check.proofs.arguments.check_arguments.Given as goal

-- the breaches of the arguments that are left are all that there are
abbrev pub invariant-loop-argument : goal.invariant-loop-argument
invariant-loop-argument l = breaches_in (labelled_elements (context_as l.context) l.labels_left (map argument_of (drop l.argument-index l.args))) ≡ breaches_in (labelled_elements (context_as l.context) l.labels (map argument_of l.args))
