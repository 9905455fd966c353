use Rattle.std.proofs.Common.{refl, rules}
use Rattle.bench.proofs.Entries.{entries}
use Rattle.bench.proofs.Marks.{due-set, stale-set}
use Rattle.bench.proofs.bench.Bench.set_for.Goals as goal

pub invariant_of-self : goal.invariant_of-self
invariant_of-self c = (rw c.give.ensures.entries (due-set _ (λ sample expected. refl) c.args.id.now c.args.setting c.self.inside.messages.entries c.self.invariant.0), c.give.ensures.unique)

pub returns : goal.returns
returns c =
    ((search (rules, entries), rw (← c.self.view_is, c.give.ensures.entries) (stale-set c.args.id.now c.args.setting c.self.inside.messages.entries c.self.invariant.1)), tt, search (rules, entries))
