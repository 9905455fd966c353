use Rattle.std.proofs.Common.{refl}
use Rattle.sieve_table.proofs.command_rows.discard_row.Goals as goal

pub returns : goal.returns
returns c = refl
