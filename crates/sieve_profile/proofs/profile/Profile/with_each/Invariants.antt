use Rattle.std.proofs.Common.{◌≡◌, drop, filter}
use Rattle.sieve_profile.specs.Extension.{asks_for, extensions}
use Rattle.sieve_profile.specs.Profile.{with_each}
use Rattle.sieve_profile.specs.view.Profile.{profile_as}
use Rattle.sieve_profile.proofs.profile.Profile.with_each.Given as goal

-- adding those left that are asked for to the profile so far gives the first one with all of them
abbrev pub invariant-loop-extension : goal.invariant-loop-extension
invariant-loop-extension l =
    with_each (profile_as l.profile) (filter (asks_for l.name) (drop l.extension-index extensions))
    ≡ with_each (profile_as l.initial.profile) (filter (asks_for l.name) extensions)
