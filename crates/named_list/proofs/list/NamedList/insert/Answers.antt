use Rattle.std.proofs.Common.{refl, rules, ◌∙◌}
use Rattle.named_list.proofs.Entries.{distinct-entries, insert-entries, insert-filled, insert-gaps}
use Rattle.named_list.proofs.list.NamedList.insert.Goals as goal

pub invariant_of-self : goal.invariant_of-self
invariant_of-self g c =
    rw c.in-Ok.ensures.entries
    (insert-filled _ (λ a b. refl) (λ a n. refl) c.args.name c.args.value c.self.inside.slots.entries c.self.invariant.0, insert-gaps _ (λ a b. refl) (λ a n. refl) c.args.name c.args.value c.self.inside.slots.entries ∙ c.self.invariant.1)

pub returns-in-Ok-clause-ok : goal.returns-in-Ok-clause-ok
returns-in-Ok-clause-ok g c =
    rw (c.in-Ok.ensures.entries, ← c.self.view_is) (insert-entries _ (λ a b. refl) (λ a n. refl) c.args.name c.args.value c.self.inside.slots.entries c.self.invariant.0)

pub returns-in-Ok-clause-unique : goal.returns-in-Ok-clause-unique
returns-in-Ok-clause-unique g c = distinct-entries _ (λ a b. refl) (λ a n. refl) _ c.insert.ensures.unique

pub returns-clause-unique : goal.returns-clause-unique
returns-clause-unique g c = distinct-entries _ (λ a b. refl) (λ a n. refl) _ c.insert.ensures.unique
