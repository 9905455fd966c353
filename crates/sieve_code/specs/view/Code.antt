-- The operations of compiled code.
use Rattle.std.specs.Prelude.{ℕ, List, length, ◌-◌}
use Rattle.sieve_code.specs.Operation.{Operation, targeting}
use Rattle.sieve_code.specs.Pool.{Pool}
use Rattle.sieve_code.specs.view.Operation.{op_in, ops_in}
use Rattle.sieve_code.specs.view.Pools.{pool_as}
use Rattle.sieve_code.specs.declared.code.Code.{Code}
use Rattle.sieve_code.specs.declared.operation.PackedOperation.{PackedOperation}

abbrev pub ops_of : Code → List Operation
ops_of code = ops_in (pool_as code.pools) code.ops.items

-- the strings, questions and commands that its operations name by their places
abbrev pub pool_of : Code → Pool
pool_of code = pool_as code.pools

-- the place where this many operations are left
abbrev pub jump_place_of : Code → ℕ → ℕ
jump_place_of code left = length code.ops.items - left

-- one of its operations
abbrev pub op_of : Code → PackedOperation → Operation
op_of code op = targeting (jump_place_of code) (op_in (pool_of code) op)
