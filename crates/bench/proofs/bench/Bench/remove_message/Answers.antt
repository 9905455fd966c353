use Rattle.std.proofs.Common.{nat_eq, rules}
use lib.Pointwise.{pointwise}
use Rattle.bench.proofs.Entries.{entries}
use Rattle.bench.proofs.Marks.{due-removed, stale-removed}
use Rattle.bench.proofs.bench.Bench.remove_message.Goals as goal

pub invariant_of-self : goal.invariant_of-self
invariant_of-self c =
    (rw c.remove.ensures.entries (due-removed _ (pointwise nat_eq c.args.id.now) c.self.inside.messages.entries c.self.invariant.0), c.remove.ensures.unique)

pub returns : goal.returns
returns c =
    ((search (rules, entries), rw (← c.self.view_is, c.remove.ensures.entries) (stale-removed (pointwise nat_eq c.args.id.now) c.self.inside.messages.entries c.self.invariant.1)), tt, search (rules, entries))
