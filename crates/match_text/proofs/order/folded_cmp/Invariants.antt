use Rattle.std.proofs.Common.{◌≡◌, drop, map}
use Rattle.std.specs.Cmp.Lexicographic.{slice_cmp}
use Rattle.std.specs.Ordering.{nat_cmp}
use Rattle.match_text.proofs.order.folded_cmp.Given as goal

-- the rests of both texts are in the order of the whole texts
abbrev pub invariant-loop-x : goal.invariant-loop-x
invariant-loop-x g l =
    slice_cmp nat_cmp (map g.C.Comparator.folded (drop l.x-index l.a)) (map g.C.Comparator.folded l.left)
    ≡ slice_cmp nat_cmp (map g.C.Comparator.folded l.a) (map g.C.Comparator.folded l.b)
