-- The operations of the code of an abstract script. They are those of its conditions (RFC 5228, 5.2
-- to 5.10) and commands (RFC 5228, 3.1, 3.3 and 4). They are in the order of the text, with jumps
-- between them.
use Rattle.std.specs.Prelude.{ℕ, ◌-◌, ◌<◌, ◌≤◌, ◌≡◌, Bool, true, false, not, List, [], ◌∷◌, length, map, Some, slice_get}
use Rattle.sieve_script.specs.Script as script
use Rattle.sieve_script.specs.Script.{Condition, always, never, negated, all_hold, any_holds, Conditions, no_conditions, one_condition, Commands, no_commands, chooses, Branches, no_branches, else_branch, test_branch}
use Rattle.sieve_code.specs.Operation.{Operation, set_op, invert_op, test_op, jump_op, jump_if_op, act_op, stop_op, return_op, target_of, targeting}

-- Operations up to the end of the code. The target of a jump is here the number of operations from
-- the target to the end. So the operations in front don't matter.
abbrev pub Tail : Type 0
Tail = List Operation

-- CONDITIONS

-- The other conditions of a list, which stand before `after`. Before them is a jump past the last
-- one. It is taken if the condition in front of them has that truth.
abbrev pub joint : Bool → Conditions → Tail → Tail → Tail
joint truth no_conditions after others = others
joint truth (one_condition c cs) after others = jump_if_op truth (length after) ∷ others

unfoldable mutual
  -- the operations of a condition before a tail
  pub condition_before : Condition → Tail → Tail
  condition_before always after = set_op true ∷ after
  condition_before never after = set_op false ∷ after
  condition_before (script.asks ask) after = test_op ask ∷ after
  condition_before (negated c) after = condition_before c (invert_op ∷ after)
  condition_before (all_hold cs) after = joined_before false cs after
  condition_before (any_holds cs) after = joined_before true cs after

  -- The operations of joined conditions. After each but the last there is a jump past the last one.
  -- It is taken if the condition has that truth. Without conditions the register is set to the
  -- other truth.
  pub joined_before : Bool → Conditions → Tail → Tail
  joined_before truth no_conditions after = set_op (not truth) ∷ after
  joined_before truth (one_condition c cs) after = condition_before c (joint truth cs after (list_before truth cs after))

  pub list_before : Bool → Conditions → Tail → Tail
  list_before truth no_conditions after = after
  list_before truth (one_condition c cs) after = condition_before c (joint truth cs after (list_before truth cs after))

-- COMMANDS

-- The operations after the block of a branch with a test. If a branch follows, a jump past the
-- branches is the first.
abbrev pub past_branches : Branches → (after others : Tail) → Tail
past_branches no_branches after others = others
past_branches (else_branch inner) after others = jump_op (length after) ∷ others
past_branches (test_branch condition inner others_of_it) after others = jump_op (length after) ∷ others

unfoldable mutual
  -- the operations of commands before a tail
  pub commands_before : Commands → Tail → Tail
  commands_before no_commands after = after
  commands_before (script.stops rest) after = stop_op ∷ commands_before rest after
  commands_before (script.returns rest) after = return_op ∷ commands_before rest after
  commands_before (script.acts leaf line rest) after = act_op leaf line ∷ commands_before rest after
  commands_before (chooses branches rest) after = branches_before branches (commands_before rest after)

  -- The operations of branches before a tail. A branch with a test has its test, a jump and its
  -- block. If the test is false, the jump goes to the next branch or to the end of the chain.
  pub branches_before : Branches → Tail → Tail
  branches_before no_branches after = after
  branches_before (else_branch inner) after = commands_before inner after
  branches_before (test_branch condition inner others) after =
      condition_before condition (jump_if_op false (length (branches_before others after)) ∷ commands_before inner (past_branches others after (branches_before others after)))

-- all operations of an abstract script
abbrev pub tail_of : Commands → Tail
tail_of commands = commands_before commands []

-- THE CODE

-- a tail that is all of the code, with its targets as places
unfoldable pub placed : Tail → List Operation
placed tail = map (targeting (λ left. length tail - left)) tail

-- the operations of an abstract script
abbrev pub code_of : Commands → List Operation
code_of commands = placed (tail_of commands)

-- each jump's target is after its place, and at most one past the last operation
abbrev pub AllGoForward : List Operation → Type 0
AllGoForward code = (place target : ℕ) (op : Operation) → slice_get code place ≡ Some op → target_of op ≡ Some target → (place < target) × (target ≤ length code)
