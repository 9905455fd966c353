use Rattle.std.proofs.Common.{◌∙◌, add-one, arith}
use Rattle.sieve_variables.proofs.Numbers.{digit_step}
use Rattle.sieve_variables.proofs.name.index_of.Goals as goal

pub loop-digit-preserved : goal.loop-digit-preserved
loop-digit-preserved c = (
  omega arith,
  rw add-one (digit_step c.args.digits.now c.loop-digit.digit-index c.loop-digit.index c.min-index.result (omega arith) (omega arith)) ∙ c.loop-digit.invariant.1,
)
