use Rattle.std.proofs.Common.{◌≡◌, length, arith}
use Rattle.message_text.specs.Fields.{fields_of}
use Rattle.sieve_conditions.proofs.NamedPlaces.{is_named_place}
use Rattle.sieve_conditions.proofs.field_cache.named_place.Goals as goal

pub returns-in-Some : goal.returns-in-Some
returns-in-Some c =
    let next = c.in-Some.ensures.some in
    is_named_place c.args.message.now c.args.name.now c.args.first c.in-Some.next c.requires.first c.requires.countable (let low = next.after in omega arith) next.others

pub returns-in-None : goal.returns-in-None
returns-in-None c =
    let count : c.fields.result ≡ length (fields_of c.args.message.now) = c.fields.ensures in
    let within = c.requires.first.within in
    is_named_place c.args.message.now c.args.name.now c.args.first c.fields.result c.requires.first c.requires.countable (omega arith) (λ k low high. c.in-None.ensures.none k low (omega arith))
