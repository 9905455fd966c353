use Rattle.sieve_syntax.proofs.Meaning.{ok_writes, writes_ok, err_faults, faults_err}
use Rattle.sieve_syntax.proofs.laws.tree_or_fault.Goals as goal

pub returns-clause-tree : goal.returns-clause-tree
returns-clause-tree c = λ text tree. (ok_writes text tree, writes_ok text tree)

pub returns-clause-fault : goal.returns-clause-fault
returns-clause-fault c = λ text line. (err_faults text line, faults_err text line)
