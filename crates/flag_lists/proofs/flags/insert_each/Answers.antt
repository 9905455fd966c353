use Rattle.std.proofs.Common.{ap, sym, ◌∙◌}
use Rattle.std.proofs.lemmas.List.{take_all}
use Rattle.flag_lists.specs.Flags.{flag_union}
use Rattle.flag_lists.proofs.FlagLists.{union_nil, union_so_far}
use Rattle.flag_lists.proofs.flags.insert_each.Goals as goal

pub loop-flag-init : goal.loop-flag-init
loop-flag-init c = sym (union_nil c.args.flags.now.keys)

pub loop-flag-preserved : goal.loop-flag-preserved
loop-flag-preserved c =
    union_so_far c.args.flags.now.keys c.args.list.now c.loop-flag.flag-index c.flag-item.result c.loop-flag.flags.keys c.insert.new.flags.keys
    c.loop-flag-test.true (rw (← c.flag-item.is, ← c.as_slice.ensures) c.in_ok-insert.ensures.ok) c.loop-flag.invariant

pub returns-clause-ok : goal.returns-clause-ok
returns-clause-ok c =
    c.loop-flag.invariant ∙ ap (flag_union c.args.flags.now.keys) (take_all c.loop-flag.flag-index c.args.list.now c.loop-flag-test.false)
