use Rattle.std.proofs.Common.{◌∙◌, ap, sym}
use Rattle.sieve_table.specs.Table.{command_row}
use Rattle.sieve_table.proofs.table.CommandKind.row.Goals as goal

pub returns-in-Stop : goal.returns-in-Stop
returns-in-Stop c = c.stop_row.ensures ∙ ap command_row (sym c.in-Stop.is)
