use Rattle.std.proofs.Common.{◌≡◌, List, Option, true, is_some, nat_eq, refl, sym, ap, ◌∙◌, arith}
use Rattle.std.specs.Map.{lookup}
use lib.Pointwise.{pointwise}
use Rattle.named_list.specs.Slots.{entries_of, is_named}
use Rattle.named_list.proofs.Entries.{gap_left-entries, gap_left-filled, gap_left-gaps, left_there, length-slots, remove-entries, remove-filled, remove-gaps, remove_absent}
use Rattle.named_list.proofs.list.take_out.Goals as goal

pub returns-in_default-clause-entries : goal.returns-in_default-clause-entries
returns-in_default-clause-entries g c =
    ap entries_of (sym (remove_absent (is_named c.args.name.now) c.args.slots.now.entries (sym c.get_index_of.ensures.found ∙ ap is_some c.in_default.is)))
    ∙ remove-entries (is_named c.args.name.now) (pointwise nat_eq c.args.name.now) (λ name. refl) (λ number. refl) c.args.slots.now.entries c.requires.0

pub overflow_add-result : goal.overflow_add-result
overflow_add-result g c = let all = length-slots c.args.slots.now.entries c.requires.0 in omega (arith, all, c.requires.1, c.can_leave_gap.ensures.small)

pub returns-then-can_leave_gap-clause-entries : goal.returns-then-can_leave_gap-clause-entries
returns-then-can_leave_gap-clause-entries g c =
    ap entries_of (c.leave_gap.ensures ∙ left_there (is_named c.args.name.now) c.args.gaps c.args.slots.now.entries c.in-Some.index c.in-Some.ensures.within (sym c.get_index_of.ensures.index ∙ c.in-Some.is))
    ∙ gap_left-entries (is_named c.args.name.now) (pointwise nat_eq c.args.name.now) (λ name. refl) (λ number. refl) c.args.gaps c.args.slots.now.entries c.requires.0

pub returns-then-can_leave_gap-clause-filled : goal.returns-then-can_leave_gap-clause-filled
returns-then-can_leave_gap-clause-filled g c =
    let found : is_some (lookup (is_named c.args.name.now) c.args.slots.now.entries) ≡ true = sym c.get_index_of.ensures.found ∙ ap is_some c.in-Some.is in
    let more = gap_left-gaps (is_named c.args.name.now) (λ number. refl) c.args.gaps c.args.slots.now.entries found in
    rw (c.leave_gap.ensures, left_there (is_named c.args.name.now) c.args.gaps c.args.slots.now.entries c.in-Some.index c.in-Some.ensures.within (sym c.get_index_of.ensures.index ∙ c.in-Some.is))
    (gap_left-filled (is_named c.args.name.now) c.args.gaps c.args.slots.now.entries c.requires.0, omega (arith, more, c.requires.1))

pub returns-clause-entries : goal.returns-clause-entries
returns-clause-entries g c =
    ap entries_of c.shift_remove.ensures.entries
    ∙ remove-entries (is_named c.args.name.now) (pointwise nat_eq c.args.name.now) (λ name. refl) (λ number. refl) c.args.slots.now.entries c.requires.0

pub returns-clause-filled : goal.returns-clause-filled
returns-clause-filled g c =
    rw c.shift_remove.ensures.entries
    (remove-filled (is_named c.args.name.now) c.args.slots.now.entries c.requires.0, remove-gaps (is_named c.args.name.now) (λ number. refl) c.args.slots.now.entries ∙ c.requires.1)
