use Rattle.std.proofs.Common.{List, sym, ap, ◌∙◌}
use Rattle.message_text.specs.Addresses.{AddrSpec, addresses_of}
use Rattle.message_text.specs.Fields.{Field, fields_of}
use Rattle.sieve_conditions.specs.Matching.{first_some}
use Rattle.sieve_conditions.specs.view.FieldTests.{found_with, part_found}
use Rattle.sieve_conditions.proofs.Searching.{first_part, made_twice}
use Rattle.sieve_conditions.proofs.field_values.find_in_listed.Goals as goal

pub returns-clause-found : goal.returns-clause-found
returns-clause-found c field at =
    let find = found_with c.args.matcher.now in
    c.in_ok-found.ensures
    ∙ ap (λ (listed : List AddrSpec). first_some (part_found find c.args.part) listed)
    (c.deref.ensures.value ∙ made_twice (λ (f : Field). f.value) addresses_of (fields_of c.args.fields.now.message) c.args.i field _ at c.in_ok-listed.ensures.listed)
    ∙ sym (first_part find c.args.part (addresses_of field.value))
