use Rattle.std.proofs.Common.{◌≡◌, map, take}
use Rattle.std.specs.List.{fold}
use Rattle.match_text.specs.Comparator.{ascii_casemap}
use Rattle.message_text.specs.view.NameHash.{with_octet}
use Rattle.message_text.proofs.names.name_hash.Given as goal

-- the hash is that of the octets so far
abbrev pub invariant-loop-octet : goal.invariant-loop-octet
invariant-loop-octet l = l.hash ≡ fold with_octet 0 (map ascii_casemap (take l.octet-index l.name))
