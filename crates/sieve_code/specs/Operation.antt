-- The operations of compiled code. They have one truth register.
use Rattle.std.specs.Prelude.{ℕ, Bool, Option, Some, None}
use Rattle.sieve_script.specs.Reading.{Ask, Leaf}

-- An operation. It sets the register, inverts it, or sets it to the truth of a test on the
-- delivery. Or it goes to another operation, always or if the register has that truth. Or it
-- carries out a command, with the command's line. Or it ends the run or its script.
pub data Operation : Type 0 where
  set_op : (truth : Bool) → Operation
  invert_op : Operation
  test_op : (ask : Ask) → Operation
  jump_op : (target : ℕ) → Operation
  jump_if_op : (truth : Bool) (target : ℕ) → Operation
  act_op : (leaf : Leaf) (line : ℕ) → Operation
  stop_op : Operation
  return_op : Operation

-- an operation, with its target changed
abbrev pub targeting : (ℕ → ℕ) → Operation → Operation
targeting f (set_op truth) = set_op truth
targeting f invert_op = invert_op
targeting f (test_op ask) = test_op ask
targeting f (jump_op target) = jump_op (f target)
targeting f (jump_if_op truth target) = jump_if_op truth (f target)
targeting f (act_op leaf line) = act_op leaf line
targeting f stop_op = stop_op
targeting f return_op = return_op

-- the target of a jump
abbrev pub target_of : Operation → Option ℕ
target_of (jump_op target) = Some target
target_of (jump_if_op truth target) = Some target
target_of other = None
