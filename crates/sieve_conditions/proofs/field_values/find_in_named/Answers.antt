use Rattle.std.proofs.Common.{None, map, ap, ◌∙◌}
use Rattle.std.specs.List.{flat_map}
use Rattle.message_text.specs.Fields.{fields_of}
use Rattle.sieve_delivery.specs.Delivery.{Arrival}
use Rattle.sieve_conditions.specs.Matching.{fields_looked_at, first_some, values_in}
use Rattle.sieve_delivery.specs.view.State.{state_of}
use Rattle.sieve_conditions.specs.declared.field_values.Finder.{Finder}
use Rattle.sieve_conditions.specs.view.FieldTests.{found_with}
use Rattle.sieve_variables.specs.Value.{text_value}
use Rattle.sieve_conditions.proofs.Searching.{all_found}
use Rattle.sieve_conditions.proofs.field_values.find_in_named.Goals as goal

pub returns-clause-found : goal.returns-clause-found
returns-clause-found c =
    let names = map (text_value (state_of c.args.state.now).values) c.args.names.now in
    let looked = fields_looked_at c.args.part (fields_of c.args.fields.now.message) names in
    ap (λ (finder : Finder). finder.found) c.in_ok-visit_looked_at.ensures.seen
    ∙ all_found c.args.fields.now.profile c.args.part looked (record { matcher = c.args.matcher; found = None })
    ∙ ap (λ (a : Arrival). first_some (found_with c.args.matcher.now) (flat_map (values_in a.profile c.args.part) (fields_looked_at c.args.part (fields_of a.message) names))) c.requires
