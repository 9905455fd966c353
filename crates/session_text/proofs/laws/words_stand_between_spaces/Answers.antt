use Rattle.session_text.proofs.Spaces.{words_of_joined, words_of_line}
use Rattle.session_text.proofs.laws.words_stand_between_spaces.Goals as goal

pub returns-clause-joined : goal.returns-clause-joined
returns-clause-joined c = words_of_joined

pub returns-clause-spaced : goal.returns-clause-spaced
returns-clause-spaced c = words_of_line
