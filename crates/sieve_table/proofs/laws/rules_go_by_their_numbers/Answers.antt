use Rattle.std.proofs.Common.{◌≡◌, ◌+◌, ◌-◌, ℕ, Some, slice_get, subst, arith}
use denote.Enum.Declared.{tag_of}
use Rattle.sieve_table.specs.Rule.{all_rules}
use Rattle.sieve_table.specs.contracts.rule.Rule.{enum, the_type}
use Rattle.sieve_profile.proofs.Each.{value_at}
use Rattle.sieve_table.proofs.laws.rules_go_by_their_numbers.Goals as goal

less : (n : ℕ) → n ≡ n + 1 - 1
less n = omega arith

pub returns-clause-order : goal.returns-clause-order
returns-clause-order c rule = subst (λ n. slice_get all_rules n ≡ Some rule) (less (tag_of the_type rule)) (value_at enum tt rule)
