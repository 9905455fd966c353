use Rattle.match_text.proofs.Slices.{lengths_taken, slices_taken}
use Rattle.match_text.proofs.laws.captures_are_slices.Goals as goal

pub returns-clause-slices : goal.returns-clause-slices
returns-clause-slices c = slices_taken

pub returns-clause-lengths : goal.returns-clause-lengths
returns-clause-lengths c = lengths_taken
