use Rattle.date_text.proofs.ReadLemmas.{read_is}
use Rattle.date_text.proofs.laws.what_is_shown_is_read.Goals as goal

pub returns : goal.returns
returns c = read_is
