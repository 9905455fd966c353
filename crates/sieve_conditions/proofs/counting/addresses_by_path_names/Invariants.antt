use Rattle.std.proofs.Common.{◌≡◌, ◌+◌, drop, filter, length, map}
use Rattle.std.specs.List.{flat_map}
use Rattle.message_text.specs.declared.addressing.AddressPart.TheVariants.{All}
use Rattle.octets.specs.Octet.{is_filled}
use Rattle.sieve_delivery.specs.Delivery.{envelope_of}
use Rattle.sieve_conditions.specs.Matching.{envelope_named}
use Rattle.sieve_delivery.specs.view.Delivery.{arrival_as}
use Rattle.sieve_variables.specs.Value.{text_value}
use Rattle.sieve_conditions.proofs.counting.addresses_by_path_names.Given as goal

-- the addresses that are counted and those of the names that are left are all
abbrev pub invariant-loop-i : goal.invariant-loop-i
invariant-loop-i l =
    let named = envelope_named All (envelope_of (arrival_as l.arrival)) in let names = map (text_value l.values) l.names in
    l.count + length (filter is_filled (flat_map named (drop l.i names))) ≡ length (filter is_filled (flat_map named names))
