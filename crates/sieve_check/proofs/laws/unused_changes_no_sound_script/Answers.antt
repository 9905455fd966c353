use Rattle.sieve_check.proofs.Unused.{same_judgement, same_script, same_strings}
use Rattle.sieve_check.proofs.laws.unused_changes_no_sound_script.Goals as goal

pub returns-clause-sound : goal.returns-clause-sound
returns-clause-sound c = same_judgement

pub returns-clause-tree : goal.returns-clause-tree
returns-clause-tree c = same_script

pub returns-clause-strings : goal.returns-clause-strings
returns-clause-strings c = same_strings
