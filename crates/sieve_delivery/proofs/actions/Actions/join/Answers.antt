use Rattle.std.proofs.Common.{List, map, subst, sym, ap, ◌∙◌}
use Rattle.sieve_delivery.specs.declared.action.Entry.{Entry}
use Rattle.sieve_delivery.specs.Joining.{joined_entry}
use Rattle.sieve_delivery.specs.view.Actions.{AreKnown, EntriesAndFlags, entries_as}
use Rattle.sieve_delivery.proofs.Known.{are_known_joined, as_joined}
use Rattle.sieve_delivery.proofs.actions.Actions.join.Goals as goal

pub invariant_of-self-2 : goal.invariant_of-self-2
invariant_of-self-2 c =
    let flags = c.self.inside.flags in
    subst (λ (l : List Entry). AreKnown flags l) (sym (c.in_ok-self-inside.ensures))
    (are_known_joined flags c.args.action.now c.replace-held.result.items
    (subst (λ (l : List Entry). AreKnown flags l) (sym (ap (λ v. v.items) c.replace-held.ensures.value)) c.self.invariant))

pub returns-clause-entries : goal.returns-clause-entries
returns-clause-entries c =
    let action = c.args.action.now in
    ap entries_as c.in_ok-self-inside.ensures ∙ as_joined action c.replace-held.result.items
    ∙ ap (λ v. map (joined_entry action) (entries_as v.items)) c.replace-held.ensures.value ∙ ap (λ (v : EntriesAndFlags). map (joined_entry action) v.entries) c.self.view_is
