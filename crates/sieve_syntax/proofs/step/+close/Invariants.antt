use Rattle.std.proofs.Common.{vec_len}
use Rattle.sieve_syntax.proofs.step.+close.Given as goal

abbrev pub decreases-close : goal.decreases-close
decreases-close l = vec_len l.outer.now.levels
