use Rattle.std.proofs.Common.{◌≡◌, drop, map}
use Rattle.sieve_script.specs.Given.{in_role}
use Rattle.sieve_script.specs.view.CutArgument.{cut_as}
use Rattle.sieve_script.proofs.by_label.argument_in.Given as goal

-- the first argument in the wanted role is the first in that role among the arguments that are left
abbrev pub invariant-loop-argument : goal.invariant-loop-argument
invariant-loop-argument l = in_role l.wanted l.labels_left (map cut_as (drop l.argument-index l.args)) ≡ in_role l.wanted l.labels (map cut_as l.args)
