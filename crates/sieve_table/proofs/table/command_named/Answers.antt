use Rattle.sieve_table.specs.Table.{command_named}
use Rattle.sieve_table.proofs.table.command_named.Goals as goal

pub returns : goal.returns
returns c = unfold command_named in c.find_command.ensures
