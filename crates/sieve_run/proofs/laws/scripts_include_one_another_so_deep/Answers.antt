use Rattle.sieve_run.proofs.Depth.{by_stack, main_first, none_deeper}
use Rattle.sieve_run.proofs.laws.scripts_include_one_another_so_deep.Goals as goal

pub returns-clause-main : goal.returns-clause-main
returns-clause-main c = main_first

pub returns-clause-within : goal.returns-clause-within
returns-clause-within c = by_stack

pub returns-clause-deepest : goal.returns-clause-deepest
returns-clause-deepest c = none_deeper
