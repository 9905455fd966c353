use Rattle.std.proofs.Common.{rules}
use Rattle.sieve_delivery.proofs.acting.give.Goals as goal

pub returns-then-not-has_room_for : goal.returns-then-not-has_room_for
returns-then-not-has_room_for c = search rules
