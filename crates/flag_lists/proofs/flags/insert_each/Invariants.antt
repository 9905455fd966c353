use Rattle.std.proofs.Common.{◌≡◌, take}
use Rattle.flag_lists.specs.Flags.{flag_union}
use Rattle.flag_lists.proofs.flags.insert_each.Given as goal

-- the set is the one before the loop, united with the flags of the list so far
abbrev pub invariant-loop-flag : goal.invariant-loop-flag
invariant-loop-flag l = l.flags.keys ≡ flag_union l.initial.flags.keys (take l.flag-index l.list)
