use Rattle.bench.proofs.Kept.{new_in_order, order_kept, stays_in_order}
use Rattle.bench.proofs.laws.edits_keep_the_order.Goals as goal

pub returns-clause-first : goal.returns-clause-first
returns-clause-first c = new_in_order

pub returns-clause-each : goal.returns-clause-each
returns-clause-each c = order_kept

pub returns-clause-turns : goal.returns-clause-turns
returns-clause-turns c = stays_in_order
