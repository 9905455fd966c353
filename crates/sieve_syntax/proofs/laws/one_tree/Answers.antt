use Rattle.sieve_syntax.proofs.Meaning.{one_tree, fault_alone}
use Rattle.sieve_syntax.proofs.laws.one_tree.Goals as goal

pub returns-clause-only : goal.returns-clause-only
returns-clause-only c = one_tree

pub returns-clause-fault : goal.returns-clause-fault
returns-clause-fault c = fault_alone
