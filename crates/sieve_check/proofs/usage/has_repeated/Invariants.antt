use Rattle.std.proofs.Common.{◌≡◌, length}
use Rattle.sieve_check.specs.Use.{has_repeated}
use Rattle.sieve_check.proofs.usage.has_repeated.Given as goal

-- whether two tags are of one kind is decided by the labels that are left
abbrev pub invariant-loop-left : goal.invariant-loop-left
invariant-loop-left l = has_repeated l.left ≡ has_repeated l.labels

abbrev pub decreases-loop-left : goal.decreases-loop-left
decreases-loop-left l = length l.left
