use Rattle.std.proofs.Common.{◌≡◌, ℕ, ◌<◌, false, get_or}
use Rattle.sieve_variables.specs.Scan.{is_dot}
use Rattle.sieve_variables.proofs.references.cut.Given as goal

-- there is no dot so far
abbrev pub invariant-loop-i : goal.invariant-loop-i
invariant-loop-i l = (k : ℕ) → k < l.i → is_dot (get_or l.inside k 0) ≡ false
