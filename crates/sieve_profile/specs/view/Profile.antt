-- The program's profiles.
use Rattle.sieve_profile.specs.Profile.{Profile}
use Rattle.sieve_profile.specs.declared.profile.Profile as profiles

abbrev pub profile_as : profiles.Profile → Profile
profile_as p = p
