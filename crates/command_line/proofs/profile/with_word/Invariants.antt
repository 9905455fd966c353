use Rattle.std.proofs.Common.{◌≡◌, length, drop}
use Rattle.command_line.specs.Profiles.{parts_of, with_names}
use Rattle.sieve_profile.specs.view.Profile.{profile_as}
use Rattle.command_line.proofs.profile.with_word.Given as goal

-- the profile so far with the names that are left is the profile before with all names
abbrev pub invariant-loop-name : goal.invariant-loop-name
invariant-loop-name l = with_names (profile_as l.profile) (drop (length l.yielded) (parts_of l.word)) ≡ with_names (profile_as l.initial.profile) (parts_of l.word)
