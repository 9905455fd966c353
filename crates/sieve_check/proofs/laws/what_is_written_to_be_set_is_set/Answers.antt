-- The lemma `names_set` says which variables are set after commands. The lemma `set_before` says
-- which are set before an element.
use Rattle.sieve_check.proofs.NamedBefore.{set_before}
use Rattle.sieve_check.proofs.Naming.{names_set}
use Rattle.sieve_check.proofs.laws.what_is_written_to_be_set_is_set.Goals as goal

pub returns-clause-after : goal.returns-clause-after
returns-clause-after c = names_set

pub returns-clause-before : goal.returns-clause-before
returns-clause-before c = set_before
