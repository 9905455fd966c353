use Rattle.std.proofs.Common.{◌≡◌, drop}
use Rattle.packed_strings.proofs.strings.are_these.Given as goal

-- the strings are the same if those that are left are
abbrev pub invariant-loop-i : goal.invariant-loop-i
invariant-loop-i l = drop l.i l.strings ≡ drop l.i l.texts → l.strings ≡ l.texts
