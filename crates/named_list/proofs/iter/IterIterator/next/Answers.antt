use Rattle.std.proofs.Common.{◌≡◌, option_map, sym, ap, ◌∙◌, refl, rules}
use Rattle.std.specs.Map.Iter.{deref_pair}
use Rattle.named_list.specs.Slots.{before_others, entries_of}
use Rattle.named_list.proofs.Entries.{entries-first, entries-none, first_goes}
use Rattle.named_list.proofs.iter.IterIterator.next.Goals as goal

pub returns-in-Some-entry_in-clause-steps : goal.returns-in-Some-entry_in-clause-steps
returns-in-Some-entry_in-clause-steps g c =
    sym c.loop-key.invariant ∙ entries-first _ _ _ _ c.in-Some.ensures.steps
    ∙ ap (λ o. before_others o (entries_of c.next.new.self)) (sym c.entry_in.ensures ∙ ap (option_map deref_pair) c.in-Some-entry_in.is)

pub returns-in-Some-entry_in-clause-goes : goal.returns-in-Some-entry_in-clause-goes
returns-in-Some-entry_in-clause-goes g c =
    first_goes _ _ _ _ (sym c.loop-key.invariant ∙ entries-first _ _ _ _ c.in-Some.ensures.steps
    ∙ ap (λ o. before_others o (entries_of c.next.new.self)) (sym c.entry_in.ensures ∙ ap (option_map deref_pair) c.in-Some-entry_in.is))

pub loop-key-preserved : goal.loop-key-preserved
loop-key-preserved g c =
    sym (entries-first _ _ _ _ c.in-Some.ensures.steps ∙ ap (λ o. before_others o (entries_of c.next.new.self)) (sym c.entry_in.ensures ∙ ap (option_map deref_pair) c.in_default-entry_in.is))
    ∙ c.loop-key.invariant

pub returns-clause-steps : goal.returns-clause-steps
returns-clause-steps g c = (sym c.loop-key.invariant ∙ ap entries_of c.in_default.ensures.steps.0 ∙ entries-none, ap entries_of c.in_default.ensures.steps.1 ∙ entries-none)
