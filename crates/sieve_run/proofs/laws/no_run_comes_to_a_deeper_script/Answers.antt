use Rattle.sieve_run.proofs.Depth.{never_beyond}
use Rattle.sieve_run.proofs.laws.no_run_comes_to_a_deeper_script.Goals as goal

pub returns : goal.returns
returns c = never_beyond
