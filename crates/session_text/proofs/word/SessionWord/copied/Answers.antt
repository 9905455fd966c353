use Rattle.std.proofs.Common.{rules}
use Rattle.session_text.specs.SessionLine.{word_value}
use Rattle.session_text.proofs.word.SessionWord.copied.Goals as goal

pub returns-in_default : goal.returns-in_default
unfolding word_value
returns-in_default c = search rules
