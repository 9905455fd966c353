use Rattle.std.proofs.Common.{refl, false, map}
use denote.Enum.Declared.{tag_of}
use Rattle.sieve_table.specs.Capability.{capabilities}
use Rattle.sieve_table.specs.contracts.capability.Capability.{the_type}
use Rattle.sieve_table.specs.view.Required.{required_as}
use Rattle.sieve_table.proofs.Flags.{none_at}
use Rattle.sieve_table.proofs.required.Required.nothing.Goals as goal

pub returns : goal.returns
unfolding required_as
returns c = λ i capability. none_at (map (λ e. false) capabilities) (tag_of the_type capability) refl i
