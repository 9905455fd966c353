use Rattle.bench.proofs.Kept.{profile_kept, profile_stays}
use Rattle.bench.proofs.laws.an_edit_keeps_the_profile.Goals as goal

pub returns-clause-each : goal.returns-clause-each
returns-clause-each c = profile_kept

pub returns-clause-turns : goal.returns-clause-turns
returns-clause-turns c = profile_stays
