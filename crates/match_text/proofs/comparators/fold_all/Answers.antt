use Rattle.std.proofs.Common.{rules}
use Rattle.std.proofs.lemmas.List.Edits.{map_over_more}
use Rattle.match_text.proofs.comparators.fold_all.Goals as goal

pub loop-octet-preserved : goal.loop-octet-preserved
loop-octet-preserved g c = search (rules, map_over_more g.C.Comparator.folded)
