use Rattle.std.proofs.Common.{◌≡◌, map}
use Rattle.std.specs.Option.{option_map}
use Rattle.sieve_script.specs.Given.{first_or, in_role}
use Rattle.sieve_script.specs.view.CutArgument.{cut_as}
use Rattle.sieve_table.specs.declared.row.Role.TheVariants as role
use Rattle.sieve_script.proofs.dates.into_strings.Given as goal

-- In each role, the argument found so far is the first of all arguments. Where none was found, the
-- first in the role among the arguments that are left is.
abbrev pub invariant-loop-argument : goal.invariant-loop-argument
invariant-loop-argument l = record {
  zone : first_or (option_map cut_as l.zone) (in_role role.Zone l.labels_left (map cut_as l.argument-iterator.rest.items)) ≡ in_role role.Zone l.labels (map cut_as l.fn.args.items);
  field : first_or (option_map cut_as l.field) (in_role role.FieldNames l.labels_left (map cut_as l.argument-iterator.rest.items)) ≡ in_role role.FieldNames l.labels (map cut_as l.fn.args.items);
  part : first_or (option_map cut_as l.part) (in_role role.DatePart l.labels_left (map cut_as l.argument-iterator.rest.items)) ≡ in_role role.DatePart l.labels (map cut_as l.fn.args.items);
  keys : first_or (option_map cut_as l.keys) (in_role role.Keys l.labels_left (map cut_as l.argument-iterator.rest.items)) ≡ in_role role.Keys l.labels (map cut_as l.fn.args.items);
}
