use Rattle.std.proofs.Common.{ℕ, ◌+◌, ◌<◌, length, slice_range}
use Rattle.match_text.specs.Comparator.{Same}
use Rattle.match_text.proofs.comparators.Comparator.contains.Given as goal

-- the key stands at none of the places of the value that were tried so far
abbrev pub invariant-loop-start : goal.invariant-loop-start
invariant-loop-start g l =
    (k : ℕ) → k < l.start → Same g.Self.Comparator.folded (slice_range l.value k (k + length l.key)) l.key → ⊥
