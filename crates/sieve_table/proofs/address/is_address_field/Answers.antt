use Rattle.sieve_table.specs.Address.{is_address_field}
use Rattle.sieve_table.proofs.address.is_address_field.Goals as goal

pub returns : goal.returns
returns c = unfold is_address_field in c.is_one_of.ensures
