use Rattle.std.proofs.Common.{ℕ, List, [], ◌∷◌, ◌∙◌}
use Rattle.flag_lists.specs.Flags.{flags_without}
use Rattle.flag_lists.proofs.FlagLists.{distinct_without, union_copies, union_end, union_more, without-cons, without_from_none}
use Rattle.flag_lists.proofs.flags.without.Goals as goal

pub loop-flag-init : goal.loop-flag-init
loop-flag-init c =
    let a = c.a.inside.flags.keys in let b = c.args.b.now in
    rw (c.new-flags.ensures.empty, c.as_slice-flag-items.ensures.keys, ← c.a.view_is)
    (union_copies (flags_without a b) (distinct_without a b c.a.invariant))

pub loop-flag-preserved : goal.loop-flag-preserved
loop-flag-preserved c =
    union_more (λ (l : List (List ℕ)). flags_without l c.args.b.now) (λ x. flags_without (x ∷ []) c.args.b.now)
    (λ x rest. without-cons x rest c.args.b.now)
    c.as_slice-flag-items.result.now c.loop-flag.flag-index c.flag-item.result c.loop-flag.flags.keys c.insert_other.new.flags.keys _
    c.loop-flag-test.true (rw (← c.flag-item.is, ← c.b.view_is) c.in_ok-insert_other.ensures) c.loop-flag.invariant

pub returns : goal.returns
returns c =
    c.list_of.ensures ∙ union_end (λ (l : List (List ℕ)). flags_without l c.args.b.now) (without_from_none c.args.b.now)
    c.as_slice-flag-items.result.now c.loop-flag.flag-index c.loop-flag.flags.keys _
    c.loop-flag-test.false c.loop-flag.invariant
