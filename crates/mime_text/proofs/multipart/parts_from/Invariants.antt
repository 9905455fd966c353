use Rattle.std.proofs.Common.{◌≡◌, ◌++◌, List, ℕ, map}
use Rattle.mime_text.specs.view.Cuts.{IsBoundary, epilogue_at, left_after, parts_at}
use Rattle.mime_text.proofs.multipart.parts_from.Given as goal

-- The parts so far and those after the stop are the parts after the first stop. The epilogue after
-- the stop is that after the first.
abbrev pub invariant-loop-stop : goal.invariant-loop-stop
invariant-loop-stop l =
    (name : List ℕ) → IsBoundary name l.boundary.delimiter.items l.boundary.closing.items
    → (map (λ part. part.now) l.parts.items ++ parts_at name l.stop ≡ parts_at name l.first) × (epilogue_at name l.stop ≡ epilogue_at name l.first)

abbrev pub decreases-loop-stop : goal.decreases-loop-stop
decreases-loop-stop l = left_after l.stop
