use Rattle.std.proofs.Common.{ap, map, is_some}
use Rattle.std.specs.List.{slice_get}
use Rattle.message_text.specs.Fields.{fields_of}
use Rattle.sieve_conditions.specs.Matching.{has_field}
use Rattle.sieve_variables.specs.Value.{text_value}
use Rattle.sieve_conditions.proofs.FieldsInTurn.{name_fails, name_passes}
use Rattle.sieve_conditions.proofs.field_values.has_fields.Goals as goal

pub returns-in_default : goal.returns-in_default
returns-in_default c =
    name_fails (has_field (fields_of c.args.message.now)) (map (text_value c.args.values.now) c.args.names.now) c.loop-i.i c.in_ok-name.name _ c.loop-i.invariant c.in_ok-name.ensures (ap (λ fields. is_some (slice_get fields 0)) c.in_default.ensures.none)

pub loop-i-preserved : goal.loop-i-preserved
loop-i-preserved c =
    name_passes (has_field (fields_of c.args.message.now)) (map (text_value c.args.values.now) c.args.names.now) c.loop-i.i c.in_ok-name.name _ c.loop-i.invariant c.in_ok-name.ensures (ap (λ fields. is_some (slice_get fields 0)) c.in-Some.ensures.some.rest)
