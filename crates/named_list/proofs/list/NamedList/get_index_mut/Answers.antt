use Rattle.std.proofs.Common.{◌≡◌, List, Option, None, Some, inr, nat_eq, slice_get, refl, sym, ap, ◌∙◌}
use Rattle.std.specs.Map.{values_of}
use Rattle.std.specs.Option.{ghost_name_of, option_copied_mut}
use borrow.Follows.Closed.{read_of}
use Rattle.named_list.specs.Named.{with_value_at}
use Rattle.named_list.specs.Slots.{entries_of}
use Rattle.named_list.proofs.Entries.{distinct-entries, get-place, joined, set-filled, set-gaps, set-place, set-same}
use Rattle.named_list.proofs.list.NamedList.get_index_mut.Goals as goal

pub invariant_of-self-lent : goal.invariant_of-self-lent
invariant_of-self-lent g c r =
    let ss = c.close_gaps.new.slots.entries in
    let at : slice_get (values_of ss) c.args.index ≡ Some c.in-Some.value.now = sym c.get_index_mut.ensures.value ∙ ap option_copied_mut c.in-Some.is in
    ((λ w. (set-filled ss c.args.index w c.close_gaps.ensures.filled.0, set-gaps ss c.args.index _ ∙ c.close_gaps.ensures.filled.1)), rw (set-same ss c.args.index _ at) c.close_gaps.ensures.filled)

pub returns-in-Some : goal.returns-in-Some
returns-in-Some g c =
    let ss = c.close_gaps.new.slots.entries in
    let at : slice_get (values_of ss) c.args.index ≡ Some c.in-Some.value.now = sym c.get_index_mut.ensures.value ∙ ap option_copied_mut c.in-Some.is in
    let is = ap (λ es. record { entries = es }) c.close_gaps.ensures.entries ∙ c.self.view_is in (
      (λ j. read_of (ghost_name_of c.as_mut.result) (λ w. (ap (λ es. record { entries = es }) (set-place ss c.args.index w c.close_gaps.ensures.filled.0 c.close_gaps.ensures.filled.1) ∙ ap (λ n. with_value_at n c.args.index w) is) j)
          ((ap (λ l. record { entries = entries_of l }) (set-same ss c.args.index _ at) ∙ is) j)),
      record {
        writes_back = tt;
        value = rw (← c.self.view_is, ← c.close_gaps.ensures.entries) (c.as_mut.ensures.value ∙ ap joined (sym at) ∙ sym (get-place ss c.args.index c.close_gaps.ensures.filled.0 c.close_gaps.ensures.filled.1));
        unique = rw (← c.self.view_is, ← c.close_gaps.ensures.entries) (distinct-entries _ (λ a b. refl) (λ a n. refl) ss c.get_index_mut.ensures.unique);
      },
    )

pub returns-in-None : goal.returns-in-None
returns-in-None g c =
    let ss = c.close_gaps.new.slots.entries in
    let is = ap (λ es. record { entries = es }) c.close_gaps.ensures.entries ∙ c.self.view_is in
    let none : None ≡ slice_get (values_of ss) c.args.index = ap option_copied_mut (sym c.in-None.is) ∙ c.get_index_mut.ensures.value in (
      ap inr is,
      record {
        writes_back = tt;
        value = rw (← c.self.view_is, ← c.close_gaps.ensures.entries) (ap joined none ∙ sym (get-place ss c.args.index c.close_gaps.ensures.filled.0 c.close_gaps.ensures.filled.1));
        unique = rw (← c.self.view_is, ← c.close_gaps.ensures.entries) (distinct-entries _ (λ a b. refl) (λ a n. refl) ss c.get_index_mut.ensures.unique);
      },
    )
