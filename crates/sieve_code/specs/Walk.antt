-- The walks of a script and of its code. A walk is a tree of decisions, which leaves open what the
-- message answers.
use Rattle.std.specs.Prelude.{ℕ, zero, suc, ◌+◌, Bool, true, false, not, List, [], ◌∷◌, Option, Some, None, slice_get, if◌then◌else◌}
use Rattle.sieve_script.specs.Reading.{Ask, Leaf}
use Rattle.sieve_script.specs.Script as script
use Rattle.sieve_script.specs.Script.{Condition, always, never, negated, all_hold, any_holds, Conditions, no_conditions, one_condition, Commands, no_commands, chooses, Branches, no_branches, else_branch, test_branch}
use Rattle.sieve_code.specs.Operation.{Operation, set_op, invert_op, test_op, jump_op, jump_if_op, act_op, stop_op, return_op}

-- A walk. It is at the end, or was ended by `stop` (RFC 5228, 3.3) or by `return` (RFC 6609, 3.3).
-- Or its operations were used up. Or it asks a question of the delivery, and goes on by the answer.
-- Or it carries out a command, with the command's line, and goes on.
pub data Walk : Type 0 where
  at_end : Walk
  by_stop : Walk
  by_return : Walk
  cut_off : Walk
  asked : (ask : Ask) (held failed : Walk) → Walk
  acted : (leaf : Leaf) (line : ℕ) (next : Walk) → Walk

-- THE WALK OF A SCRIPT

unfoldable mutual
  -- A condition, and the walks if it holds and if it doesn't. Tests go from left to right, and no
  -- further than needed (RFC 5229, 3.2).
  pub condition_walk : Condition → (held failed : Walk) → Walk
  condition_walk always held failed = held
  condition_walk never held failed = failed
  condition_walk (script.asks ask) held failed = asked ask held failed
  condition_walk (negated c) held failed = condition_walk c failed held
  condition_walk (all_hold cs) held failed = all_walk cs held failed
  condition_walk (any_holds cs) held failed = any_walk cs held failed

  pub all_walk : Conditions → (held failed : Walk) → Walk
  all_walk no_conditions held failed = held
  all_walk (one_condition c cs) held failed = condition_walk c (all_walk cs held failed) failed

  pub any_walk : Conditions → (held failed : Walk) → Walk
  any_walk no_conditions held failed = failed
  any_walk (one_condition c cs) held failed = condition_walk c held (any_walk cs held failed)

unfoldable mutual
  -- commands, and the walk after them
  pub commands_walk : Commands → Walk → Walk
  commands_walk no_commands next = next
  commands_walk (script.stops rest) next = by_stop
  commands_walk (script.returns rest) next = by_return
  commands_walk (script.acts leaf line rest) next = acted leaf line (commands_walk rest next)
  commands_walk (chooses branches rest) next = branches_walk branches (commands_walk rest next)

  -- Branches, and the walk after them. At most one branch is taken: the first whose condition
  -- holds, or the `else`.
  pub branches_walk : Branches → Walk → Walk
  branches_walk no_branches next = next
  branches_walk (else_branch inner) next = commands_walk inner next
  branches_walk (test_branch condition inner others) next = condition_walk condition (commands_walk inner next) (branches_walk others next)

-- the walk of a script
abbrev pub script_walk : Commands → Walk
script_walk commands = commands_walk commands at_end

-- THE WALK OF CODE

-- The step of the operation at a place, or the end if there is none. `go` goes on at a place with a
-- truth in the register.
abbrev pub step : (go : ℕ → Bool → Walk) → Option Operation → (place : ℕ) (register : Bool) → Walk
step go None place register = at_end
step go (Some (set_op truth)) place register = go (place + 1) truth
step go (Some invert_op) place register = go (place + 1) (not register)
step go (Some (test_op ask)) place register = asked ask (go (place + 1) true) (go (place + 1) false)
step go (Some (jump_op target)) place register = go target register
step go (Some (jump_if_op true target)) place register = if register then go target register else go (place + 1) register
step go (Some (jump_if_op false target)) place register = if register then go (place + 1) register else go target register
step go (Some (act_op leaf line)) place register = acted leaf line (go (place + 1) register)
step go (Some stop_op) place register = by_stop
step go (Some return_op) place register = by_return

-- the walk if no further operation may be met, which is the end if the code ends there
abbrev pub at_limit : Option Operation → Walk
at_limit None = at_end
at_limit (Some op) = cut_off

-- the walk from a place, with a truth in the register, in at most this many operations
unfoldable pub walk_from : List Operation → ℕ → (place : ℕ) (register : Bool) → Walk
walk_from ops zero place register = at_limit (slice_get ops place)
walk_from ops (suc n) place register = step (walk_from ops n) (slice_get ops place) place register

-- The walk of code in at most this many operations. The register starts as false.
abbrev pub code_walk : List Operation → ℕ → Walk
code_walk ops n = walk_from ops n 0 false

-- no part of a walk is cut off
unfoldable pub IsWhole : Walk → Type 0
IsWhole at_end = Unit {0}
IsWhole by_stop = Unit {0}
IsWhole by_return = Unit {0}
IsWhole cut_off = ⊥
IsWhole (asked ask held failed) = IsWhole held × IsWhole failed
IsWhole (acted leaf line next) = IsWhole next

-- WITH ANSWERS

-- an item that a walk meets: a test that asks, or a command that acts with its line
pub data Met : Type 0 where
  met_ask : (ask : Ask) → Met
  met_leaf : (leaf : Leaf) (line : ℕ) → Met

-- how a walk ends: at the end, by `stop`, by `return`, without an answer, or with its operations
-- used up
pub data WalkEnd : Type 0 where
  ended : WalkEnd
  stopped : WalkEnd
  returned : WalkEnd
  unanswered : WalkEnd
  unfinished : WalkEnd

-- the result of going a walk: the items that were met, in order, and how it ended
pub record Gone : Type 0 where
  pub met : List Met
  pub ending : WalkEnd

abbrev pub met_before : Met → Gone → Gone
met_before m gone = record { met = m ∷ gone.met; ending = gone.ending }

-- Going a walk with these answers. Each test that asks takes the next answer.
unfoldable pub gone : Walk → List Bool → Gone
gone at_end answers = record { met = []; ending = ended }
gone by_stop answers = record { met = []; ending = stopped }
gone by_return answers = record { met = []; ending = returned }
gone cut_off answers = record { met = []; ending = unfinished }
gone (asked ask held failed) [] = met_before (met_ask ask) (record { met = []; ending = unanswered })
gone (asked ask held failed) (true ∷ answers) = met_before (met_ask ask) (gone held answers)
gone (asked ask held failed) (false ∷ answers) = met_before (met_ask ask) (gone failed answers)
gone (acted leaf line next) answers = met_before (met_leaf leaf line) (gone next answers)
