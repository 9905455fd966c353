-- The operations that code keeps.
use Rattle.std.specs.Prelude.{ℕ, ◌-◌, Bool, true, false, List, map, length}
use Rattle.sieve_code.specs.Operation.{Operation, set_op, invert_op, test_op, jump_op, jump_if_op, act_op, stop_op, return_op, targeting}
use Rattle.sieve_code.specs.Pool.{Pool, no_pool, ask_at, leaf_at}
use Rattle.sieve_code.specs.declared.operation.PackedOperation.{PackedOperation}
use Rattle.sieve_code.specs.declared.operation.PackedOperation.TheVariants as op

-- an operation, whose jumps count from the end
abbrev pub op_in : Pool → PackedOperation → Operation
op_in pool op.True = set_op true
op_in pool op.False = set_op false
op_in pool op.Not = invert_op
op_in pool (op.Test place) = test_op (ask_at pool place)
op_in pool (op.Jump left) = jump_op left
op_in pool (op.JumpIfFalse left) = jump_if_op false left
op_in pool (op.JumpIfTrue left) = jump_if_op true left
op_in pool (op.Act place line) = act_op (leaf_at pool place) line
op_in pool op.Stop = stop_op
op_in pool op.Return = return_op

-- an operation of code with `count` operations, with its target as a place
abbrev pub placed_in : ℕ → Pool → PackedOperation → Operation
placed_in count pool op = targeting (λ left. count - left) (op_in pool op)

-- Whether an operation neither asks nor acts. Then the operation that it is.
abbrev pub is_plain : PackedOperation → Bool
is_plain op.True = true
is_plain op.False = true
is_plain op.Not = true
is_plain (op.Test place) = false
is_plain (op.Jump left) = true
is_plain (op.JumpIfFalse left) = true
is_plain (op.JumpIfTrue left) = true
is_plain (op.Act place line) = false
is_plain op.Stop = true
is_plain op.Return = true

abbrev pub plain_as : PackedOperation → Operation
plain_as op = op_in no_pool op

-- the operations of code
abbrev pub ops_in : Pool → List PackedOperation → List Operation
ops_in pool ops = map (placed_in (length ops) pool) ops
