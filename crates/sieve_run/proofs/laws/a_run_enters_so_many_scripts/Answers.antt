use Rattle.sieve_run.proofs.Bounds.{run_keeps, run_short}
use Rattle.sieve_run.proofs.laws.a_run_enters_so_many_scripts.Goals as goal

pub returns-clause-many : goal.returns-clause-many
returns-clause-many c = run_short

pub returns-clause-kept : goal.returns-clause-kept
returns-clause-kept c = run_keeps
