-- The branches at the front of a tail, as the compiler knows them.
use Rattle.std.specs.Prelude.{ℕ, ◌-◌, Bool, true, false, if◌then◌else◌, ◌∷◌, length, drop}
use Rattle.sieve_script.specs.Script.{Branches, Commands, Condition, no_branches, else_branch, test_branch}
use Rattle.sieve_code.specs.Choice.{Tail, commands_before, condition_before}
use Rattle.sieve_code.specs.Operation.{jump_op, jump_if_op}

-- the last operations of a tail, `count` of them
abbrev pub last : ℕ → Tail → Tail
last count tail = drop (length tail - count) tail

-- whether there is a branch
abbrev pub has_branch : Branches → Bool
has_branch no_branches = false
has_branch (else_branch inner) = true
has_branch (test_branch condition inner others) = true

-- A branch with a test before a tail. `follows` says whether another branch follows, and `after` is
-- the number of operations after the branches.
abbrev pub branch_before : Condition → Commands → (follows : Bool) → (after : ℕ) → Tail → Tail
branch_before condition inner follows after tail = condition_before condition (jump_if_op false (length tail) ∷ commands_before inner (if follows then jump_op after ∷ tail else tail))
