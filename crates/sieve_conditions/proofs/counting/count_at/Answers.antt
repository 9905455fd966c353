use Rattle.std.proofs.Common.{◌≡◌, sym, ap, ◌∙◌, rules}
use Rattle.std.specs.Option.{option_map}
use Rattle.std.specs.Prelude.{length}
use Rattle.message_text.specs.Addresses.{addresses_of}
use Rattle.message_text.specs.Fields.{Field, fields_of}
use Rattle.message_text.specs.declared.addressing.AddressPart.TheVariants.{All}
use Rattle.sieve_conditions.specs.Matching.{values_in}
use Rattle.sieve_conditions.proofs.Counted.{as_many}
use Rattle.sieve_conditions.proofs.Searching.{made_twice}
use Rattle.sieve_conditions.proofs.counting.count_at.Goals as goal

pub returns-clause-count : goal.returns-clause-count
returns-clause-count c field at =
    let profile = c.args.fields.now.profile in
    let count : c.len-count.result ≡ length c.in_ok-listed.listed.items = search rules in
    count
    ∙ ap length (made_twice (λ (f : Field). f.value) addresses_of (fields_of c.args.fields.now.message) c.args.i field _ at c.in_ok-listed.ensures.listed)
    ∙ as_many profile c.in-Some.field-0 field
    ∙ ap (λ part. length (values_in profile (option_map (λ one. All) part) field)) (sym c.in-Some.is)
