use Rattle.std.proofs.Common.{◌≡◌, drop, map}
use Rattle.sieve_conditions.specs.Matching.{first_some}
use Rattle.sieve_delivery.specs.Delivery.{envelope_of}
use Rattle.sieve_delivery.specs.view.Delivery.{arrival_as}
use Rattle.sieve_conditions.specs.view.FieldTests.{found_with, path_name_found}
use Rattle.sieve_variables.specs.Value.{text_value}
use Rattle.sieve_conditions.proofs.path_values.find_by_path_names.Given as goal

-- the names that are left give the match values of all names
abbrev pub invariant-loop-i : goal.invariant-loop-i
invariant-loop-i l =
    let find = path_name_found (found_with l.matcher) l.part (envelope_of (arrival_as l.arrival)) in
    first_some find (drop l.i (map (text_value l.values) l.names)) ≡ first_some find (map (text_value l.values) l.names)
