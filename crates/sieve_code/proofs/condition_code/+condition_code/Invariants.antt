use Rattle.sieve_script.specs.view.Script.{conditions_as}
use Rattle.sieve_code.proofs.Putting.{ConditionsPut}
use Rattle.sieve_code.proofs.condition_code.+condition_code.Given as goal

-- some conditions stand before the given tail, and the others are left
abbrev pub invariant-put_joined-loop-condition : goal.invariant-put_joined-loop-condition
invariant-put_joined-loop-condition l = ConditionsPut l.truth l.tail l.fn.tail l.follows l.condition-iterator.rest.items (conditions_as l.fn.list.items)
