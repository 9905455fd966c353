use Rattle.match_text.proofs.Relations.{named_word, word_found}
use Rattle.match_text.proofs.laws.relations_have_their_words.Goals as goal

pub returns-clause-found : goal.returns-clause-found
returns-clause-found c = word_found

pub returns-clause-word : goal.returns-clause-word
returns-clause-word c = named_word
