use Rattle.std.proofs.Common.{◌≡◌, ℕ, length}
use Rattle.named_list.specs.Slots.{entries_of}
use Rattle.named_list.proofs.iter.IterIterator.next.Given as goal

abbrev pub invariant-loop-key : goal.invariant-loop-key
invariant-loop-key g l = entries_of l.self-inside.slots ≡ l.fn.self

abbrev pub decreases-loop-key : goal.decreases-loop-key
decreases-loop-key g l = length l.self-inside.slots
