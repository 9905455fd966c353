use Rattle.std.proofs.Common.{◌≡◌, ◌+◌, ◌≤◌, drop, filter, length, map}
use Rattle.octets.specs.Octet.{is_filled}
use Rattle.sieve_variables.specs.Value.{text_value}
use Rattle.sieve_conditions.proofs.counting.filled_strings.Given as goal

-- The strings that are counted and those that are left are all. At most as many are counted as are
-- passed.
abbrev pub invariant-loop-i : goal.invariant-loop-i
invariant-loop-i l =
    let texts = map (text_value l.values) l.texts in
    (l.count + length (filter is_filled (drop l.i texts)) ≡ length (filter is_filled texts)) × (l.count ≤ l.i)
