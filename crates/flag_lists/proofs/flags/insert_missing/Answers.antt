use Rattle.std.proofs.Common.{◌∙◌, sym}
use Rattle.flag_lists.proofs.FlagLists.{union_present}
use Rattle.flag_lists.proofs.flags.insert_missing.Goals as goal

pub returns-then-contains-clause-ok : goal.returns-then-contains-clause-ok
returns-then-contains-clause-ok c = sym (union_present c.args.flags.now.keys c.args.flag.now (sym c.contains.ensures ∙ c.if-contains.true))
