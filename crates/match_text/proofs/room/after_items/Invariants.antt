use Rattle.std.proofs.Common.{◌≡◌, ◌++◌, ℕ, List, Some, drop}
use Rattle.match_text.specs.declared.room.KeyKind.TheVariants.{Pattern}
use Rattle.match_text.specs.view.Room.{is_room}
use Rattle.match_text.proofs.room.after_items.Given as goal

-- the octets left have room, with any rest, exactly if all octets had it at first
abbrev pub invariant-loop-octet : goal.invariant-loop-octet
invariant-loop-octet l =
    (rest : List ℕ) → is_room Pattern l.is_protected (Some l.left) (drop l.octet-index l.octets ++ rest) ≡ is_room Pattern l.was_protected (Some l.size) (l.octets ++ rest)
