use Rattle.date_text.proofs.MomentLemmas.{forth, same_moment, shifted}
use Rattle.date_text.proofs.laws.a_zone_and_back_changes_nothing.Goals as goal

pub returns-clause-shifted : goal.returns-clause-shifted
returns-clause-shifted c = shifted

pub returns-clause-back : goal.returns-clause-back
returns-clause-back c = same_moment

pub returns-clause-forth : goal.returns-clause-forth
returns-clause-forth c = forth
