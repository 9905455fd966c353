use Rattle.std.proofs.Common.{◌≡◌, ℕ, ◌<◌, length, slice_index}
use Rattle.match_text.proofs.comparators.Comparator.is.Given as goal

-- the octets of value and key that were compared so far are equal after folding
abbrev pub invariant-loop-a : goal.invariant-loop-a
invariant-loop-a g l =
    (k : ℕ) → k < length l.yielded → g.Self.Comparator.folded (slice_index l.value k) ≡ g.Self.Comparator.folded (slice_index l.key k)
