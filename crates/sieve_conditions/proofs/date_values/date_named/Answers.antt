use Rattle.std.proofs.Common.{◌≡◌, ap, ◌∙◌, sym}
use Rattle.std.specs.List.{slice_get}
use Rattle.std.specs.Option.{option_and_then}
use Rattle.date_text.specs.Reading.{date_in}
use Rattle.message_text.specs.Fields.{Field, fields_of}
use Rattle.packed_strings.proofs.Joining.{get_map}
use Rattle.sieve_conditions.proofs.date_values.date_named.Goals as goal

pub returns-in-None : goal.returns-in-None
returns-in-None c = ap (λ fields. option_and_then (λ (field : Field). date_in field.value) (slice_get fields 0)) (sym c.in-None.ensures.none)

pub returns-in_ok-value-in-Some : goal.returns-in_ok-value-in-Some
returns-in_ok-value-in-Some c =
    let first = c.in-Some.ensures.some in
    let value = sym (get_map (λ (field : Field). field.value) (fields_of c.args.message.now) c.in-Some.i first.field first.at) ∙ c.in_ok-value-in-Some.ensures.octets in
    let same : c.as_slice.result.now ≡ first.field.value = cc in
    c.date_in.ensures ∙ ap date_in same ∙ ap (λ fields. option_and_then (λ (field : Field). date_in field.value) (slice_get fields 0)) (sym first.rest)
