use Rattle.std.proofs.Common.{List, None, ap, refl, subst, sym, ◌∙◌}
use Rattle.sieve_delivery.specs.declared.action.Entry.{Entry}
use Rattle.sieve_delivery.specs.view.Actions.{AreKnown, EntriesAndFlags, entries_as}
use Rattle.sieve_delivery.proofs.Known.{are_known_forgotten, as_lowered, same_both}
use Rattle.sieve_delivery.proofs.actions.Actions.set_flags.Goals as goal

pub invariant_of-self : goal.invariant_of-self
invariant_of-self c = subst (λ (l : List Entry). AreKnown c.args.named l) (sym c.lower_all.ensures) (are_known_forgotten c.args.named c.self.inside.entries.items)

pub returns : goal.returns
returns c =
    same_both (entries_as c.lower_all.new.entries.items) c.args.self.now.entries c.args.named c.args.named
    (ap entries_as c.lower_all.ensures ∙ as_lowered None c.self.inside.entries.items ∙ ap (λ (v : EntriesAndFlags). v.entries) c.self.view_is) refl
