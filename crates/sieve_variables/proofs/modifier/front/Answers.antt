use Rattle.std.proofs.Common.{sym, arith}
use Rattle.std.proofs.lemmas.List.{length-take-le, take_all}
use Rattle.sieve_variables.proofs.modifier.front.Goals as goal

pub slice_bounds-result-end : goal.slice_bounds-result-end
slice_bounds-result-end c = sym (length-take-le c.args.limit c.args.value.now (omega arith))

pub returns-else-value-limit : goal.returns-else-value-limit
returns-else-value-limit c = sym (take_all c.args.limit c.args.value.now (omega arith))
