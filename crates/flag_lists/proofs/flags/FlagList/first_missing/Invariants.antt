use Rattle.std.proofs.Common.{◌≡◌, take, true}
use Rattle.std.specs.List.{All}
use Rattle.flag_lists.specs.Flags.{has_flag}
use Rattle.flag_lists.proofs.flags.FlagList.first_missing.Given as goal

-- the list has each flag of the other list before the place
abbrev pub invariant-loop-place : goal.invariant-loop-place
invariant-loop-place l = All (λ flag. has_flag l.self flag ≡ true) (take l.place l.flags)
