use Rattle.std.proofs.Common.{◌≡◌, false, map}
use Rattle.std.specs.Option.{option_map}
use Rattle.sieve_script.specs.Given.{first_or, in_role}
use Rattle.sieve_table.specs.Role.{same_role}
use Rattle.sieve_script.specs.view.CutArgument.{cut_as}
use Rattle.sieve_script.proofs.by_label.into_three.Given as goal

-- In each role, the argument found so far is the first of all arguments. Where none was found, the
-- first in the role among the arguments that are left is.
abbrev pub invariant-loop-argument : goal.invariant-loop-argument
invariant-loop-argument l = record {
  wanted : first_or (option_map cut_as l.in_wanted) (in_role l.wanted l.labels_left (map cut_as l.argument-iterator.rest.items)) ≡ in_role l.wanted l.labels (map cut_as l.fn.args.items);
  other : first_or (option_map cut_as l.in_other) (in_role l.other l.labels_left (map cut_as l.argument-iterator.rest.items)) ≡ in_role l.other l.labels (map cut_as l.fn.args.items);
  third : same_role l.third l.wanted ≡ false → same_role l.third l.other ≡ false → first_or (option_map cut_as l.in_third) (in_role l.third l.labels_left (map cut_as l.argument-iterator.rest.items)) ≡ in_role l.third l.labels (map cut_as l.fn.args.items);
}
