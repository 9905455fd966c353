use Rattle.std.proofs.Common.{refl}
use Rattle.match_text.proofs.Ordered.{from_after}
use Rattle.match_text.proofs.Relations.{eq_alone, ge_stands, le_either, le_stands, ne_stands}
use Rattle.match_text.proofs.laws.relations_go_by_the_order.Goals as goal

pub returns-clause-ne : goal.returns-clause-ne
returns-clause-ne c = ne_stands

pub returns-clause-ge : goal.returns-clause-ge
returns-clause-ge c = ge_stands

pub returns-clause-le : goal.returns-clause-le
returns-clause-le c = le_stands

pub returns-clause-equal : goal.returns-clause-equal
returns-clause-equal c = le_either

pub returns-clause-turned : goal.returns-clause-turned
returns-clause-turned c = from_after

pub returns-clause-greater : goal.returns-clause-greater
returns-clause-greater c = refl

pub returns-clause-less : goal.returns-clause-less
returns-clause-less c = refl

pub returns-clause-same : goal.returns-clause-same
returns-clause-same c = refl

pub returns-clause-equal_alone : goal.returns-clause-equal_alone
returns-clause-equal_alone c = eq_alone
