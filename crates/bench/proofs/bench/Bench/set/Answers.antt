use Rattle.std.proofs.Common.{◌≡◌, None, rules, refl}
use Rattle.bench.specs.Content.{setting_refusal}
use Rattle.bench.proofs.Marks.{due-all_marked, stale-all_marked}
use Rattle.bench.proofs.bench.Bench.set.Goals as goal

pub invariant_of-self : goal.invariant_of-self
invariant_of-self c = (rw c.forget_all.ensures.entries (due-all_marked _ c.self.inside.messages.entries), c.forget_all.ensures.unique)

pub returns : goal.returns
returns c =
    let none : setting_refusal c.args.setting ≡ None = search rules in
    ((rw (none, c.forget_all.ensures.messages, c.apply.ensures.main, c.apply.ensures.envelope) (rw (← c.self.view_is) refl), rw c.forget_all.ensures.entries (stale-all_marked c.self.inside.messages.entries)), tt, rw none tt)
