use Rattle.std.proofs.Common.{◌≡◌, drop}
use Rattle.sieve_conditions.specs.Matching.{first_some}
use Rattle.sieve_conditions.specs.view.FieldTests.{found_with, part_found}
use Rattle.sieve_conditions.proofs.field_values.find_keys_in_addresses.Given as goal

-- the addresses that are left give the match values of all addresses
abbrev pub invariant-loop-address : goal.invariant-loop-address
invariant-loop-address l =
    let find = part_found (found_with l.matcher) l.fn.part in
    first_some find (drop l.address-index l.addresses) ≡ first_some find l.addresses
