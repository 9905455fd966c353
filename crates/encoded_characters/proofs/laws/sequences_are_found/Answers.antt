use Rattle.encoded_characters.proofs.Found.{found_is_written, sequence_at-written}
use Rattle.encoded_characters.proofs.laws.sequences_are_found.Goals as goal

pub returns-clause-written : goal.returns-clause-written
returns-clause-written c = sequence_at-written

pub returns-clause-only : goal.returns-clause-only
returns-clause-only c = found_is_written
