use Rattle.std.proofs.Common.{◌≡◌, ◌++◌, drop, map, take}
use Rattle.match_text.proofs.comparators.fold_all.Given as goal

-- the octets so far are folded, and those that are left as they were
abbrev pub invariant-loop-octet : goal.invariant-loop-octet
invariant-loop-octet g l = l.octet-items ≡ map g.C.Comparator.folded (take l.octet-index l.initial.octet-items) ++ drop l.octet-index l.initial.octet-items
