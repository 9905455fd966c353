use Rattle.std.proofs.Common.{◌≡◌, drop}
use Rattle.flag_lists.specs.Flags.{flag_union, flags_without}
use Rattle.flag_lists.proofs.flags.without.Given as goal

-- the flags so far, united with the rest of `a` without `b`, are `a` without `b`
abbrev pub invariant-loop-flag : goal.invariant-loop-flag
invariant-loop-flag l = flag_union l.flags.keys (flags_without (drop l.flag-index l.flag-items) l.b) ≡ flags_without l.a l.b
