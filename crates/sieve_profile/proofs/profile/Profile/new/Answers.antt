use Rattle.std.proofs.Common.{refl}
use Rattle.sieve_profile.proofs.profile.Profile.new.Goals as goal

pub returns : goal.returns
returns c = refl
