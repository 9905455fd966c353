use Rattle.std.proofs.Common.{filter, ap, ◌∙◌}
use Rattle.message_text.specs.Fields.{fields_of, is_field_named}
use Rattle.mime_text.specs.Entities.{first_value}
use Rattle.mime_text.proofs.Headers.{none_found, value_found}
use Rattle.mime_text.proofs.entities.value_named.Goals as goal

pub returns-in_ok-value-in-Some : goal.returns-in_ok-value-in-Some
returns-in_ok-value-in-Some c =
    let fields = fields_of c.args.header.now in
    value_found c.new.result fields c.in-Some.i _ c.in-Some.ensures.some c.in_ok-value-in-Some.ensures.octets ∙ ap (λ name. first_value (filter (is_field_named name) fields)) c.new.ensures

pub returns-in-None : goal.returns-in-None
returns-in-None c =
    let fields = fields_of c.args.header.now in
    none_found c.new.result fields c.in-None.ensures.none ∙ ap (λ name. first_value (filter (is_field_named name) fields)) c.new.ensures
