use Rattle.sieve_variables.proofs.Held.{room_left, room_there}
use Rattle.sieve_variables.proofs.variables.Variables.has_room.Goals as goal

pub returns-then-contains_key : goal.returns-then-contains_key
returns-then-contains_key c =
    room_there c.args.self.now c.self.inside.entries.entries c.args.name.now c.contains_key.result c.self.view_is c.contains_key.ensures c.if-contains_key.true

pub returns-else-contains_key : goal.returns-else-contains_key
returns-else-contains_key c =
    room_left c.args.self.now c.self.inside.entries.entries c.args.name.now c.contains_key.result c.len.result c.self.view_is c.contains_key.ensures c.if-contains_key.false c.len.ensures.len
