use Rattle.std.proofs.Common.{◌≡◌, Some, true, sym, ap, ◌∙◌, rules}
use Rattle.std.specs.List.{slice_get}
use Rattle.match_text.specs.Comparator.{ascii_casemap, same}
use Rattle.message_text.specs.Fields.{names_of}
use Rattle.sieve_conditions.specs.view.FieldCache.{IsNamedPlace}
use Rattle.sieve_conditions.proofs.FieldsInTurn.{next_field}
use Rattle.sieve_conditions.proofs.NamedPlaces.{first_written}
use Rattle.sieve_conditions.proofs.field_cache.FieldCache.kept_first.Goals as goal

pub returns-then-is-clause-some : goal.returns-then-is-clause-some
returns-then-is-clause-some c =
    let is : IsNamedPlace c.args.self.now.message c.in_ok-first.field-0 = search rules in
    let at : slice_get (names_of c.args.self.now.message) c.in_ok-first.field-0.first ≡ Some c.name.result.now = search rules in
    let so : same ascii_casemap c.name.result.now c.args.name.now ≡ true = ap (λ text. same ascii_casemap c.name.result.now text) (sym c.octets-2.ensures) ∙ sym c.is.ensures.exact ∙ c.if-is.true in
    next_field c.args.self.now.message c.args.name.now 0 c.in_ok-first.field-0.first (first_written c.args.self.now.message c.name.result.now c.args.name.now c.in_ok-first.field-0 is at so)
