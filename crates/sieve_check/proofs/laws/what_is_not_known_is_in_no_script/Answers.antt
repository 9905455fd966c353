use Rattle.sieve_check.proofs.Absent.{nothing_absent}
use Rattle.sieve_check.proofs.laws.what_is_not_known_is_in_no_script.Goals as goal

pub returns : goal.returns
returns c = nothing_absent
