use Rattle.std.proofs.Common.{◌≡◌, None, nat_eq, option_copied, refl, rules, sym, ap, ◌∙◌}
use lib.Pointwise.{pointwise}
use Rattle.named_list.specs.Slots.{is_named}
use Rattle.named_list.proofs.Entries.{joined, lookup-entries}
use Rattle.named_list.proofs.list.NamedList.get.Goals as goal

pub returns-in-Some : goal.returns-in-Some
returns-in-Some g c =
    rw (← c.self.view_is) (c.as_ref.ensures.value ∙ ap joined (sym (ap option_copied c.in-Some.is) ∙ c.get.ensures.value)
    ∙ sym (lookup-entries (is_named c.args.name.now) (pointwise nat_eq c.args.name.now) (λ name. refl) (λ number. refl) c.self.inside.slots.entries c.self.invariant.0))

pub returns-in-None : goal.returns-in-None
returns-in-None g c =
    let none : c.get.result ≡ None = search rules in
    rw (← c.self.view_is) (ap joined (sym (ap option_copied none) ∙ c.get.ensures.value)
    ∙ sym (lookup-entries (is_named c.args.name.now) (pointwise nat_eq c.args.name.now) (λ name. refl) (λ number. refl) c.self.inside.slots.entries c.self.invariant.0))
