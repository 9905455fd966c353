use Rattle.std.proofs.Common.{List, ℕ, subst, sym, ap}
use Rattle.flag_lists.specs.Flags.{flags_in}
use Rattle.sieve_delivery.specs.declared.action.Entry.{Entry}
use Rattle.sieve_delivery.specs.view.Actions.{AreKnown}
use Rattle.sieve_delivery.proofs.Known.{are_known_union}
use Rattle.sieve_delivery.proofs.actions.Actions.add_text.Goals as goal

pub invariant_of-self-2 : goal.invariant_of-self-2
invariant_of-self-2 c =
    subst (λ (l : List (List ℕ)). AreKnown l c.replace-held.result.items) (sym c.in_ok-add_text.ensures.union)
    (are_known_union c.self.inside.flags (flags_in c.args.text.now) c.replace-held.result.items
    (subst (λ (l : List Entry). AreKnown c.self.inside.flags l) (sym (ap (λ v. v.items) c.replace-held.ensures.value)) c.self.invariant))
