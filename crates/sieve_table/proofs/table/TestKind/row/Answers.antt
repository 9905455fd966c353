use Rattle.std.proofs.Common.{◌∙◌, ap, sym}
use Rattle.sieve_table.specs.Table.{test_row}
use Rattle.sieve_table.proofs.table.TestKind.row.Goals as goal

pub returns-in-True : goal.returns-in-True
returns-in-True c = c.true_row.ensures ∙ ap test_row (sym c.in-True.is)
