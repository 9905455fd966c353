use Rattle.std.proofs.Common.{◌≡◌, ◌++◌}
use Rattle.packed_strings.proofs.strings.put_after.Given as goal

-- The strings so far, and then those that are left, are one list. It is the strings at the start
-- and then all texts.
abbrev pub invariant-loop-text : goal.invariant-loop-text
invariant-loop-text l = l.strings ++ l.text-iterator.rest.items ≡ l.initial.strings ++ l.fn.texts.items
