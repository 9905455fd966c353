use Rattle.std.proofs.Common.{ℕ, List, flat_map, refl, ◌∙◌}
use Rattle.std.specs.Cow.{cow_slice_items}
use Rattle.std.specs.declared.alloc.Global.{Global}
use Rattle.std.specs.declared.borrow.CowSlice.{CowSlice}
use Rattle.flag_lists.specs.Flags.{flags_in}
use Rattle.octets.specs.view.Texts.{octets_of_each}
use Rattle.flag_lists.proofs.FlagLists.{union_end, union_more}
use Rattle.flag_lists.proofs.flags.flags_of_texts.Goals as goal

pub loop-text-preserved : goal.loop-text-preserved
loop-text-preserved c =
    union_more (λ (l : List (CowSlice ℕ Global)). flat_map flags_in (octets_of_each l))
    (λ x. flags_in (cow_slice_items x)) (λ x rest. refl)
    c.args.texts.now c.loop-text.text-index c.text-item.result c.loop-text.flags.keys c.insert_text.new.flags.keys _
    c.loop-text-test.true (rw (← c.text-item.is, ← c.as_slice.ensures.value) c.in_ok-insert_text.ensures.ok) c.loop-text.invariant

pub returns : goal.returns
returns c =
    c.list_of.ensures ∙ union_end (λ (l : List (CowSlice ℕ Global)). flat_map flags_in (octets_of_each l)) refl
    c.args.texts.now c.loop-text.text-index c.loop-text.flags.keys _
    c.loop-text-test.false c.loop-text.invariant
