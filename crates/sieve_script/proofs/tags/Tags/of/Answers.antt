use Rattle.std.proofs.Common.{refl}
use Rattle.sieve_script.specs.view.Tags.{tags_as}
use Rattle.sieve_script.proofs.tags.Tags.of.Goals as goal

pub returns : goal.returns
unfolding tags_as
returns c = refl
