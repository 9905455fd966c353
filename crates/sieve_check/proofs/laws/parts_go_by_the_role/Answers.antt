use Rattle.sieve_check.proofs.PartsByRole.{expanded_cut, named, plain}
use Rattle.sieve_check.proofs.laws.parts_go_by_the_role.Goals as goal

pub returns-clause-expanded : goal.returns-clause-expanded
returns-clause-expanded c = expanded_cut

pub returns-clause-name : goal.returns-clause-name
returns-clause-name c = named

pub returns-clause-plain : goal.returns-clause-plain
returns-clause-plain c = plain
