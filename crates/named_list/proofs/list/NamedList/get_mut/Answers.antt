use Rattle.std.proofs.Common.{◌≡◌, List, Option, None, Some, inr, is_some, nat_eq, slice_get, refl, sym, ap, ◌∙◌}
use Rattle.std.specs.Map.{values_of}
use Rattle.std.specs.Option.{ghost_name_of, option_copied_mut}
use borrow.Follows.Closed.{read_of}
use lib.Pointwise.{pointwise}
use Rattle.named_list.specs.Named.{with_value}
use Rattle.named_list.specs.Slots.{entries_of, is_named}
use Rattle.named_list.specs.declared.slot.SlotKey.{SlotKey}
use Rattle.named_list.proofs.Entries.{distinct-entries, joined, lookup-entries, lookup_none, set-filled, set-gaps, set-named, set-same}
use Rattle.named_list.proofs.list.NamedList.get_mut.Goals as goal

pub returns-in_default : goal.returns-in_default
returns-in_default g c =
    let ss = c.self.inside.slots.entries in
    let none = lookup_none (is_named c.args.name.now) ss (sym c.get_index_of.ensures.found ∙ ap is_some c.in_default.is) in (
      ap inr c.self.view_is,
      record {
        writes_back = tt;
        value = rw (← c.self.view_is) (ap joined (sym none) ∙ sym (lookup-entries (is_named c.args.name.now) (pointwise nat_eq c.args.name.now) (λ name. refl) (λ number. refl) ss c.self.invariant.0));
        unique = rw (← c.self.view_is) (distinct-entries _ (λ a b. refl) (λ a n. refl) ss c.get_index_of.ensures.unique);
      },
    )

pub invariant_of-self-lent : goal.invariant_of-self-lent
invariant_of-self-lent g c r =
    let ss = c.self.inside.slots.entries in
    let at : slice_get (values_of ss) c.in-Some.index ≡ Some c.in-Some-get_index_mut.value.now = sym c.get_index_mut.ensures.value ∙ ap option_copied_mut c.in-Some-get_index_mut.is in
    ((λ w. (set-filled ss c.in-Some.index w c.self.invariant.0, set-gaps ss c.in-Some.index _ ∙ c.self.invariant.1)), rw (set-same ss c.in-Some.index _ at) c.self.invariant)

pub returns-in-Some-get_index_mut : goal.returns-in-Some-get_index_mut
returns-in-Some-get_index_mut g c =
    let ss = c.self.inside.slots.entries in
    let at : slice_get (values_of ss) c.in-Some.index ≡ Some c.in-Some-get_index_mut.value.now = sym c.get_index_mut.ensures.value ∙ ap option_copied_mut c.in-Some-get_index_mut.is in (
      (λ j. read_of (ghost_name_of c.as_mut.result) (λ w. (ap (λ es. record { entries = es }) (set-named c.args.name.now ss c.in-Some.index w c.self.invariant.0 c.in-Some.ensures.within (sym c.get_index_of.ensures.index ∙ c.in-Some.is)) ∙ ap (λ n. with_value n c.args.name.now w) c.self.view_is) j)
          ((ap (λ l. record { entries = entries_of l }) (set-same ss c.in-Some.index _ at) ∙ c.self.view_is) j)),
      record {
        writes_back = tt;
        value = rw (← c.self.view_is) (c.as_mut.ensures.value ∙ ap joined (sym at ∙ c.in-Some.ensures.value) ∙ sym (lookup-entries (is_named c.args.name.now) (pointwise nat_eq c.args.name.now) (λ name. refl) (λ number. refl) ss c.self.invariant.0));
        unique = rw (← c.self.view_is) (distinct-entries _ (λ a b. refl) (λ a n. refl) ss c.get_index_of.ensures.unique);
      },
    )
