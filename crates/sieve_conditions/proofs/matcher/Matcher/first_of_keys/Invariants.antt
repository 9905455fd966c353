use Rattle.std.proofs.Common.{◌≡◌, drop}
use Rattle.sieve_conditions.specs.Matching.{first_some}
use Rattle.sieve_conditions.specs.view.FieldTests.{found_with, key_found}
use Rattle.sieve_conditions.proofs.matcher.Matcher.first_of_keys.Given as goal

-- The value stays. The keys that are left decide the match values that it gives by the first key
-- that it matches.
abbrev pub invariant-loop-i : goal.invariant-loop-i
invariant-loop-i l = (l.searched ≡ l.value) × (first_some (key_found l.self l.value) (drop l.i l.self.keys.now) ≡ found_with l.self l.value)
