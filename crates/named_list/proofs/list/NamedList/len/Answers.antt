use Rattle.std.proofs.Common.{refl, arith}
use Rattle.named_list.proofs.Entries.{distinct-entries, length-slots}
use Rattle.named_list.proofs.list.NamedList.len.Goals as goal

pub overflow_sub-result : goal.overflow_sub-result
overflow_sub-result g c = let all = length-slots c.self.inside.slots.entries c.self.invariant.0 in omega (arith, c.len.ensures.len, c.self.invariant.1, all)

pub returns-clause-len : goal.returns-clause-len
returns-clause-len g c = let all = length-slots c.self.inside.slots.entries c.self.invariant.0 in rw (← c.self.view_is) (omega (arith, c.len.ensures.len, c.self.invariant.1, all))

pub returns-clause-unique : goal.returns-clause-unique
returns-clause-unique g c = rw (← c.self.view_is) (distinct-entries _ (λ a b. refl) (λ a n. refl) c.self.inside.slots.entries c.len.ensures.unique)
