use Rattle.std.proofs.Common.{◌≡◌, drop}
use Rattle.message_text.specs.Addresses.{begins_route}
use Rattle.message_text.proofs.pieces.begins_route.Given as goal

-- the inside of an angle begins a source route exactly if its rest does
abbrev pub invariant-loop-marked : goal.invariant-loop-marked
invariant-loop-marked l = begins_route (drop l.marked-index l.inside) ≡ begins_route l.inside
