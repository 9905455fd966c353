use Rattle.match_text.proofs.Ordered.{both, either, order_of-total, transitive}
use Rattle.match_text.proofs.laws.texts_are_in_a_total_order.Goals as goal

pub returns-clause-total : goal.returns-clause-total
returns-clause-total c = order_of-total

pub returns-clause-either : goal.returns-clause-either
returns-clause-either c = either

pub returns-clause-both : goal.returns-clause-both
returns-clause-both c = both

pub returns-clause-transitive : goal.returns-clause-transitive
returns-clause-transitive c = transitive
