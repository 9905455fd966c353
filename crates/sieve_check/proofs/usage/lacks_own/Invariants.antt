use Rattle.std.proofs.Common.{◌≡◌, length}
use Rattle.sieve_check.specs.Use.{lacks_own}
use Rattle.sieve_check.proofs.usage.lacks_own.Given as goal

-- whether a tag lacks the argument that it takes itself is decided by the labels that are left
abbrev pub invariant-loop-left : goal.invariant-loop-left
invariant-loop-left l = lacks_own l.left ≡ lacks_own l.labels

abbrev pub decreases-loop-left : goal.decreases-loop-left
decreases-loop-left l = length l.left
