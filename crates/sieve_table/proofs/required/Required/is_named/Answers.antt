use Rattle.std.proofs.Common.{refl}
use Rattle.sieve_table.specs.view.Required.{required_as}
use Rattle.sieve_table.proofs.required.Required.is_named.Goals as goal

pub returns : goal.returns
unfolding required_as
returns c = refl
