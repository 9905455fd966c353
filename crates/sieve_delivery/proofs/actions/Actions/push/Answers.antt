use Rattle.std.proofs.Common.{List, subst, sym}
use Rattle.sieve_delivery.specs.declared.action.Entry.{Entry}
use Rattle.sieve_delivery.specs.view.Actions.{AreKnown}
use Rattle.sieve_delivery.proofs.Known.{are_known_pushed}
use Rattle.sieve_delivery.proofs.actions.Actions.push.Goals as goal

pub invariant_of-self : goal.invariant_of-self
invariant_of-self c = subst (λ (l : List Entry). AreKnown c.self.inside.flags l) (sym c.in_err-push_entry.ensures.err) c.self.invariant

pub invariant_of-self-2 : goal.invariant_of-self-2
invariant_of-self-2 c =
    subst (λ (l : List Entry). AreKnown c.self.inside.flags l) (sym c.in_ok-push_entry.ensures.ok)
    (are_known_pushed c.self.inside.flags c.self.inside.entries.items c.in_ok-entry.entry c.self.invariant c.in_ok-entry.ensures.known)
