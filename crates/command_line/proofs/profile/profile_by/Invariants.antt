use Rattle.std.proofs.Common.{◌≡◌, map, drop}
use Rattle.sieve_profile.specs.Profile.{empty_profile}
use Rattle.sieve_profile.specs.view.Profile.{profile_as}
use Rattle.command_line.specs.Profiles.{names_in, with_names}
use Rattle.command_line.proofs.profile.profile_by.Given as goal

-- the profile so far with the names of the words left is the empty profile with all names
abbrev pub invariant-loop-word : goal.invariant-loop-word
invariant-loop-word l =
    with_names (profile_as l.profile) (names_in (map (λ word. word.now) (drop l.word-index l.words)))
    ≡ with_names empty_profile (names_in (map (λ word. word.now) l.words))
