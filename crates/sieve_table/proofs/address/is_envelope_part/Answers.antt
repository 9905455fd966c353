use Rattle.sieve_table.specs.Address.{is_envelope_part}
use Rattle.sieve_table.proofs.address.is_envelope_part.Goals as goal

pub returns : goal.returns
returns c = unfold is_envelope_part in c.is_one_of.ensures
