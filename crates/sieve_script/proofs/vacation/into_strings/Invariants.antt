use Rattle.std.proofs.Common.{◌≡◌, map}
use Rattle.std.specs.Option.{option_map}
use Rattle.sieve_script.specs.Given.{first_or, in_role}
use Rattle.sieve_script.specs.view.CutArgument.{cut_as}
use Rattle.sieve_table.specs.declared.row.Role.TheVariants as role
use Rattle.sieve_script.proofs.vacation.into_strings.Given as goal

-- In each role, the argument found so far is the first of all arguments. Where none was found, the
-- first in the role among the arguments that are left is.
abbrev pub invariant-loop-argument : goal.invariant-loop-argument
invariant-loop-argument l = record {
  reason : first_or (option_map cut_as l.reason) (in_role role.Text l.labels_left (map cut_as l.argument-iterator.rest.items)) ≡ in_role role.Text l.labels (map cut_as l.fn.args.items);
  subject : first_or (option_map cut_as l.subject) (in_role role.Subject l.labels_left (map cut_as l.argument-iterator.rest.items)) ≡ in_role role.Subject l.labels (map cut_as l.fn.args.items);
  from : first_or (option_map cut_as l.from) (in_role role.Sender l.labels_left (map cut_as l.argument-iterator.rest.items)) ≡ in_role role.Sender l.labels (map cut_as l.fn.args.items);
  addresses : first_or (option_map cut_as l.addresses) (in_role role.OwnAddresses l.labels_left (map cut_as l.argument-iterator.rest.items)) ≡ in_role role.OwnAddresses l.labels (map cut_as l.fn.args.items);
  handle : first_or (option_map cut_as l.handle) (in_role role.Handle l.labels_left (map cut_as l.argument-iterator.rest.items)) ≡ in_role role.Handle l.labels (map cut_as l.fn.args.items);
}
