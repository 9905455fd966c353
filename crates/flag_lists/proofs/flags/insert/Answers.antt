use Rattle.std.proofs.Common.{◌∙◌, ap}
use Rattle.indexmap.specs.IndexSet.{insert_key}
use Rattle.match_text.specs.Comparator.{ascii_casemap, same}
use Rattle.flag_lists.proofs.FlagLists.{union_one}
use Rattle.flag_lists.proofs.flags.insert.Goals as goal
use Rattle.flag_lists.proofs.flags.insert.Goals.{in-Ok, in-Err}

pub returns-clause-ok : goal.returns-clause-ok
returns-clause-ok c =
    elim c.match-insert.branch [
      | in-Ok w ↦
          rw w.result-is (w.in-Ok.ensures.keys ∙ ap (insert_key (same ascii_casemap) c.args.flags.now.keys) c.in_ok-copied.ensures
          ∙ union_one c.args.flags.now.keys c.args.flag.now)
      | in-Err w ↦ rw w.result-is tt
    ]

pub returns-clause-err : goal.returns-clause-err
returns-clause-err c =
    elim c.match-insert.branch [
      | in-Ok w ↦ rw w.result-is tt
      | in-Err w ↦ rw w.result-is w.in-Err.ensures.err
    ]
