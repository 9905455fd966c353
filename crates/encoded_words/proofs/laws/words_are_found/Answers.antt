use Rattle.encoded_words.proofs.Cut.{found_is_written, word_at-written}
use Rattle.encoded_words.proofs.laws.words_are_found.Goals as goal

pub returns-clause-written : goal.returns-clause-written
returns-clause-written c = word_at-written

pub returns-clause-only : goal.returns-clause-only
returns-clause-only c = found_is_written
