use Rattle.std.proofs.Common.{◌≡◌, length}
use Rattle.sieve_check.specs.Use.{has_late_tag}
use Rattle.sieve_check.proofs.usage.has_late_tag.Given as goal

-- whether a tag stands after a positional argument is decided by the labels that are left
abbrev pub invariant-loop-left : goal.invariant-loop-left
invariant-loop-left l = has_late_tag l.left ≡ has_late_tag l.labels

abbrev pub decreases-loop-left : goal.decreases-loop-left
decreases-loop-left l = length l.left
