use Rattle.std.proofs.Common.{◌≡◌, drop}
use Rattle.packed_strings.proofs.joined.are_same.Given as goal

-- the strings are the same if the parts that are left are
abbrev pub invariant-loop-i : goal.invariant-loop-i
invariant-loop-i l = drop l.i l.one ≡ drop l.i l.other → l.one ≡ l.other
