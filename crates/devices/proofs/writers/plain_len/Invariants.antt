-- The octets before `i` stand between quotes as they are.
use Rattle.std.proofs.Common.{◌≡◌, take}
use Rattle.std.specs.List.{flat_map}
use Rattle.devices.specs.Writers.{octet_spelling}
use Rattle.devices.proofs.writers.plain_len.Given as goal

abbrev pub invariant-loop-i : goal.invariant-loop-i
invariant-loop-i l = flat_map octet_spelling (take l.i l.bytes) ≡ take l.i l.bytes
