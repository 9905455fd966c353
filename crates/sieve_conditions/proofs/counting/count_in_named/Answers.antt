use Rattle.std.proofs.Common.{length, map, ap, ◌∙◌}
use Rattle.std.specs.List.{flat_map}
use Rattle.std.specs.Option.{option_map}
use Rattle.message_text.specs.Fields.{fields_of}
use Rattle.message_text.specs.declared.addressing.AddressPart.TheVariants.{All}
use Rattle.sieve_delivery.specs.Delivery.{Arrival}
use Rattle.sieve_delivery.specs.view.State.{state_of}
use Rattle.sieve_conditions.specs.Matching.{fields_looked_at, values_in}
use Rattle.sieve_conditions.specs.declared.counting.Counter.{Counter}
use Rattle.sieve_variables.specs.Value.{text_value}
use Rattle.sieve_conditions.proofs.Counted.{all_counted}
use Rattle.sieve_conditions.proofs.counting.count_in_named.Goals as goal

pub returns-clause-count : goal.returns-clause-count
returns-clause-count c =
    let names = map (text_value (state_of c.args.state.now).values) c.args.names.now in
    let whole = option_map (λ one. All) c.args.part in
    ap (λ (counter : Counter). counter.count) c.in_ok-visit_looked_at.ensures.seen
    ∙ all_counted c.args.fields.now.profile c.args.part (fields_of c.args.fields.now.message) names
    ∙ ap (λ (a : Arrival). length (flat_map (values_in a.profile whole) (fields_looked_at whole (fields_of a.message) names))) c.requires
