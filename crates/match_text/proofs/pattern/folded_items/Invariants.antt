use Rattle.std.proofs.Common.{◌≡◌, ◌++◌, map, drop}
use Rattle.match_text.specs.Wildcard.{items_from, items_of}
use Rattle.match_text.specs.view.Segment.{folded_item}
use Rattle.match_text.proofs.pattern.folded_items.Given as goal

-- the items so far, and then the folded items of the octets left, are those of the pattern
abbrev pub invariant-loop-octet : goal.invariant-loop-octet
invariant-loop-octet g l =
    l.items.items ++ map (folded_item g.C.Comparator.folded) (items_from l.is_protected (drop l.octet-index l.pattern)) ≡ map (folded_item g.C.Comparator.folded) (items_of l.pattern)
