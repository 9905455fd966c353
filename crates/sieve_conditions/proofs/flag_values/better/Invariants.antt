use Rattle.std.proofs.Common.{◌≡◌, None, take}
use Rattle.sieve_conditions.specs.Matching.{first_some, match_of}
use Rattle.sieve_conditions.proofs.flag_values.better.Given as goal

-- none of the flags so far matches the key
abbrev pub invariant-loop-i : goal.invariant-loop-i
invariant-loop-i l = first_some (λ flag. match_of l.matcher.comparison flag l.key) (take l.i l.flags) ≡ None
