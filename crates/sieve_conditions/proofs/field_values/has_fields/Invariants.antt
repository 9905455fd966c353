use Rattle.std.proofs.Common.{◌≡◌, drop, map}
use Rattle.std.specs.List.{list_all}
use Rattle.message_text.specs.Fields.{fields_of}
use Rattle.sieve_conditions.specs.Matching.{has_field}
use Rattle.sieve_variables.specs.Value.{text_value}
use Rattle.sieve_conditions.proofs.field_values.has_fields.Given as goal

-- the names that are left decide whether there is a field of each name
abbrev pub invariant-loop-i : goal.invariant-loop-i
invariant-loop-i l =
    let has = has_field (fields_of l.message) in
    let names = map (text_value l.values) l.names in
    list_all has (drop l.i names) ≡ list_all has names
