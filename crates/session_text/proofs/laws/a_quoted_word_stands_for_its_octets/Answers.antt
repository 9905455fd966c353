use Rattle.session_text.proofs.Quoting.{quoted_stands}
use Rattle.session_text.proofs.laws.a_quoted_word_stands_for_its_octets.Goals as goal

pub returns : goal.returns
returns c = quoted_stands
