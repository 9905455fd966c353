use Rattle.sieve_conditions.proofs.FieldsInTurn.{next_if_some, none_if_none}
use Rattle.sieve_conditions.proofs.field_cache.next_place.Goals as goal

pub returns-clause-some : goal.returns-clause-some
returns-clause-some c = next_if_some c.args.message.now c.args.name.now c.args.start c.next_named.result c.next_named.ensures.some

pub returns-clause-none : goal.returns-clause-none
returns-clause-none c = none_if_none c.args.message.now c.args.name.now c.args.start c.next_named.result c.next_named.ensures.none
