use Rattle.std.proofs.Common.{sym, ap, ◌∙◌}
use Rattle.encoded_words.specs.Scan.{decoded_of}
use Rattle.message_text.specs.Fields.{Field, fields_of}
use Rattle.sieve_conditions.specs.view.FieldTests.{found_with}
use Rattle.sieve_conditions.proofs.Searching.{made_twice, or_none}
use Rattle.sieve_conditions.proofs.field_values.find_in_decoded.Goals as goal

pub returns-clause-found : goal.returns-clause-found
returns-clause-found c field at =
    let find = found_with c.args.matcher.now in
    let profile = c.args.fields.now.profile in
    c.in_ok-found.ensures
    ∙ ap find (c.as_slice.ensures.value ∙ made_twice (λ (f : Field). f.value) (decoded_of profile) (fields_of c.args.fields.now.message) c.args.i field _ at c.in_ok-value.ensures.decoded)
    ∙ sym (or_none (find (decoded_of profile field.value)))

pub returns-in-Some-clause-found : goal.returns-in-Some-clause-found
returns-in-Some-clause-found c field at =
    let find = found_with c.args.matcher.now in
    let profile = c.args.fields.now.profile in
    c.in_ok-matched.ensures
    ∙ ap find (made_twice (λ (f : Field). f.value) (decoded_of profile) (fields_of c.args.fields.now.message) c.args.i field _ at c.in-Some.ensures)
    ∙ sym (or_none (find (decoded_of profile field.value)))
