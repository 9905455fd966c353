use Rattle.sieve_table.specs.Table.{test_named}
use Rattle.sieve_table.proofs.table.test_named.Goals as goal

pub returns : goal.returns
returns c = unfold test_named in c.find_test.ensures
