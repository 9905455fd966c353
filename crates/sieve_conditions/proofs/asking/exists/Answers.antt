use Rattle.std.proofs.Common.{rules}
use Rattle.sieve_conditions.specs.Matching.{truth_of}
use Rattle.sieve_conditions.proofs.asking.exists.Goals as goal

pub returns : goal.returns
unfolding truth_of
returns c = search rules
