use Rattle.std.proofs.Common.{◌≡◌, map}
use Rattle.sieve_script.specs.Given.{in_role}
use Rattle.sieve_script.specs.view.CutArgument.{cut_as}
use Rattle.sieve_script.proofs.by_label.into_argument.Given as goal

-- the first argument in the role among those that are left is the first of all arguments
abbrev pub invariant-loop-argument : goal.invariant-loop-argument
invariant-loop-argument l = in_role l.wanted l.labels_left (map cut_as l.argument-iterator.rest.items) ≡ in_role l.wanted l.labels (map cut_as l.fn.args.items)
