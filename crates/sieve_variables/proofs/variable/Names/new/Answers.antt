use Rattle.std.proofs.Common.{rules}
use Rattle.sieve_variables.specs.view.Names.{names_of}
use Rattle.sieve_variables.proofs.variable.Names.new.Goals as goal

pub returns : goal.returns
unfolding names_of
returns c = search rules
