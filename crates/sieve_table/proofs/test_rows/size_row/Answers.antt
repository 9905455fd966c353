use Rattle.std.proofs.Common.{refl}
use Rattle.sieve_table.proofs.test_rows.size_row.Goals as goal

pub returns : goal.returns
returns c = refl
