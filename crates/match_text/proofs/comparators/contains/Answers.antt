use Rattle.std.proofs.lemmas.Bool.Decides.{same_from_decides}
use Rattle.match_text.proofs.Deciding.{is_part-Decides}
use Rattle.match_text.proofs.comparators.contains.Goals as goal

pub returns-clause-exact : goal.returns-clause-exact
returns-clause-exact g c =
    same_from_decides _ _ c.contains.ensures (is_part-Decides g.C.Comparator.folded c.args.value.now c.args.key.now)
