use Rattle.std.proofs.Common.{List, ℕ, [], ◌∷◌, Some, ap, map, subst, sym, ◌∙◌}
use Rattle.flag_lists.specs.Flags.{flags_without}
use Rattle.sieve_delivery.specs.declared.action.Entry.{Entry}
use Rattle.sieve_delivery.specs.view.Actions.{AreKnown, EntriesAndFlags, entries_as, lowered_in}
use Rattle.sieve_delivery.proofs.Known.{are_known_lowered, as_lowered, same_both}
use Rattle.sieve_delivery.proofs.actions.Actions.remove_flag.Goals as goal

pub invariant_of-self : goal.invariant_of-self
invariant_of-self c =
    let flags = c.self.inside.flags in let at = c.in-Some.ensures.some in
    subst (λ (l : List Entry). AreKnown c.take_out.new.self l) (sym c.lower_all.ensures)
    (subst (λ (l : List (List ℕ)). AreKnown l (map (lowered_in (Some c.in-Some.place)) c.self.inside.entries.items)) (sym at.1)
    (are_known_lowered flags c.in-Some.place c.self.inside.entries.items at.0 c.self.invariant))

pub returns-in-Some : goal.returns-in-Some
returns-in-Some c =
    let flag = c.args.flag.now in
    same_both (entries_as c.lower_all.new.entries.items) c.args.self.now.entries c.take_out.new.self (flags_without c.args.self.now.flags (flag ∷ []))
    (ap entries_as c.lower_all.ensures ∙ as_lowered (Some c.in-Some.place) c.self.inside.entries.items ∙ ap (λ (v : EntriesAndFlags). v.entries) c.self.view_is)
    (c.in-Some.ensures.without ∙ ap (λ (v : EntriesAndFlags). flags_without v.flags (flag ∷ [])) c.self.view_is)
