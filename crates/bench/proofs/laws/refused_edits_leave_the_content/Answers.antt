use Rattle.bench.proofs.Rebuilt.{all_made, passed_over}
use Rattle.bench.proofs.laws.refused_edits_leave_the_content.Goals as goal

pub returns-clause-refused : goal.returns-clause-refused
returns-clause-refused c = passed_over

pub returns-clause-made : goal.returns-clause-made
returns-clause-made c = all_made
