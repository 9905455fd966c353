use Rattle.std.proofs.Common.{refl}
use Rattle.sieve_table.proofs.test_rows.exists_row.Goals as goal

pub returns : goal.returns
returns c = refl
