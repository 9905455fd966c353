use Rattle.std.proofs.Common.{ap, map, sym, ◌∙◌}
use Rattle.mime_text.specs.Entities.{entities_of}
use Rattle.mime_text.specs.Values.{texts_if_named}
use Rattle.mime_text.specs.view.Entities.{entity_as}
use Rattle.octets.specs.view.Texts.{octets_of_each}
use Rattle.sieve_delivery.specs.Delivery.{Arrival}
use Rattle.sieve_conditions.specs.Matching.{first_some}
use Rattle.sieve_conditions.specs.view.FieldTests.{entity_found, found_with}
use Rattle.sieve_conditions.proofs.Searching.{first_flat}
use Rattle.sieve_conditions.proofs.body_values.find_in_named.Goals as goal

pub returns-clause-found : goal.returns-clause-found
returns-clause-found c =
    let find = found_with c.args.matcher.now in
    let arrival = c.args.fields.now in
    let entries = octets_of_each c.args.entries.now in
    c.in_ok-found.ensures
    ∙ ap (λ (a : Arrival). first_some (entity_found find a.profile entries) (map entity_as c.deref.result.now)) (sym c.requires)
    ∙ ap (first_some (entity_found find arrival.profile entries)) (ap (map entity_as) c.deref.ensures.value ∙ c.in_ok-entities.ensures.entities)
    ∙ sym (first_flat find (texts_if_named arrival.profile entries) (entities_of arrival.message))
