use Rattle.std.proofs.Common.{◌∙◌, sym, ap}
use Rattle.flag_lists.specs.Flags.{flag_union}
use Rattle.flag_lists.proofs.FlagLists.{union_nil, without_absent, without_present}
use Rattle.flag_lists.proofs.flags.insert_other.Goals as goal

pub returns-then-contains : goal.returns-then-contains
returns-then-contains c =
    let flags = c.args.flags.now.keys in
    sym (ap (flag_union flags) (without_present c.args.flag.now c.args.others.now.keys (sym c.contains.ensures ∙ c.if-contains.true))
    ∙ union_nil flags)

pub returns-else-contains : goal.returns-else-contains
returns-else-contains c =
    rw (without_absent c.args.flag.now c.args.others.now.keys (sym c.contains.ensures ∙ c.if-contains.false), ← c.as_slice.ensures)
    c.insert.ensures.ok
