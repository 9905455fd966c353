use Rattle.std.proofs.Common.{◌≡◌, ◌≤◌, min, drop}
use Rattle.sieve_variables.specs.Name.{decimal_from, index_of}
use Rattle.sieve_variables.proofs.name.index_of.Given as goal

-- The index is at most 100. With the rest of the digits it makes the number of all digits.
abbrev pub invariant-loop-digit : goal.invariant-loop-digit
invariant-loop-digit l = (l.index ≤ 100) × (min (decimal_from l.index (drop l.digit-index l.digits)) 100 ≡ index_of l.digits)
