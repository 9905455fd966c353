use Rattle.std.proofs.Common.{◌≡◌, length}
use Rattle.match_text.specs.view.Digits.{without_zeros}
use Rattle.match_text.proofs.number.without_zeros.Given as goal

-- the rest and all digits are the same without the zeros that they begin with
abbrev pub invariant-loop-rest : goal.invariant-loop-rest
invariant-loop-rest l = without_zeros l.rest ≡ without_zeros l.digits

abbrev pub decreases-loop-rest : goal.decreases-loop-rest
decreases-loop-rest l = length l.rest
