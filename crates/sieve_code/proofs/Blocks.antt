-- The code of commands does what the commands do.
use Rattle.std.proofs.Common.{ℕ, false, ◌∷◌, length, refl}
use Rattle.sieve_script.specs.Reading as reading
use Rattle.sieve_script.specs.Script as script
use Rattle.sieve_script.specs.Script.{Condition, Commands, no_commands, chooses, Branches, no_branches, else_branch, test_branch}
use Rattle.sieve_code.specs.Choice.{Tail, past_branches, branches_before, commands_before, condition_before}
use Rattle.sieve_code.specs.Operation.{jump_op, jump_if_op, act_op, stop_op, return_op}
use Rattle.sieve_code.specs.Walk.{Walk, by_stop, by_return, acted, branches_walk, commands_walk}
use Rattle.sieve_code.proofs.Tails.{Walks, Ends, Forward, ends_self, ends_more, ends_trans, walks_acts, walks_stops, walks_returns, walks_jumps, walks_jumps_if, forward_plain, forward_jumps, forward_jumps_if, landed}
use Rattle.sieve_code.proofs.Conditions.{condition_code}

-- A tail goes this walk, whatever is in the register. Its jumps go forward.
pub record Goes (tail : Tail) (walk : Walk) : Type 0 where
  pub forward : Forward tail
  pub walks : Walks tail (λ r. walk)

-- a tail ends with another, and goes this walk
pub record GoesBefore (tail after : Tail) (walk : Walk) : Type 0 where
  pub ends : Ends tail after
  pub goes : Goes tail walk

-- the operations that are put before a tail do what commands or branches with this walk do
pub record IsBlock (before : Tail → Tail) (does : Walk → Walk) : Type 0 where
  pub at : (after : Tail) (next : Walk) → Goes after next → GoesBefore (before after) after (does next)

-- A stop or a return before a tail ends its walk. A command that acts before a tail acts before the
-- walk of the tail.
stops_before : (tail after : Tail) (walk : Walk) → GoesBefore tail after walk → GoesBefore (stop_op ∷ tail) after by_stop
stops_before tail after walk g = record {
  ends = ends_more stop_op tail after g.ends;
  goes = record { forward = forward_plain stop_op tail refl g.goes.forward; walks = walks_stops tail };
}

returns_before : (tail after : Tail) (walk : Walk) → GoesBefore tail after walk → GoesBefore (return_op ∷ tail) after by_return
returns_before tail after walk g = record {
  ends = ends_more return_op tail after g.ends;
  goes = record { forward = forward_plain return_op tail refl g.goes.forward; walks = walks_returns tail };
}

acts_before : (leaf : reading.Leaf) (line : ℕ) (tail after : Tail) (walk : Walk) → GoesBefore tail after walk → GoesBefore (act_op leaf line ∷ tail) after (acted leaf line walk)
acts_before leaf line tail after walk g = record {
  ends = ends_more (act_op leaf line) tail after g.ends;
  goes = record { forward = forward_plain (act_op leaf line) tail refl g.goes.forward; walks = walks_acts tail (λ r. walk) g.goes.walks leaf line };
}

-- BRANCHES

-- after a block, the walk goes on after the branches
jump_goes : (w after : Tail) (other next : Walk) → Goes after next → GoesBefore w after other → GoesBefore (jump_op (length after) ∷ w) w next
jump_goes w after other next goes branch = record {
  ends = ends_more (jump_op (length after)) w w (ends_self w);
  goes = record { forward = forward_jumps w after branch.ends branch.goes.forward; walks = walks_jumps w after (λ q. next) branch.ends goes.walks };
}

past_goes : (others : Branches) (after : Tail) (next : Walk) → Goes after next → GoesBefore (branches_before others after) after (branches_walk others next) → GoesBefore (past_branches others after (branches_before others after)) (branches_before others after) next
unfolding branches_before
past_goes no_branches after next goes branch = record { ends = ends_self after; goes = goes }
past_goes (else_branch inner) after next goes branch = jump_goes (branches_before (else_branch inner) after) after (branches_walk (else_branch inner) next) next goes branch
past_goes (test_branch c inner others) after next goes branch = jump_goes (branches_before (test_branch c inner others) after) after (branches_walk (test_branch c inner others) next) next goes branch

-- A branch with a test does its block, or what the other branches do. Then the walk after them goes
-- on.
test_goes : (c : Condition) (inner : Commands) (others : Branches) → IsBlock (commands_before inner) (commands_walk inner) → IsBlock (branches_before others) (branches_walk others)
    → (after : Tail) (next : Walk) → Goes after next → GoesBefore (branches_before (test_branch c inner others) after) after (branches_walk (test_branch c inner others) next)
unfolding branches_before branches_walk
test_goes c inner others i o after next goes =
    let w = branches_before others after in
    let branch = o.at after next goes in
    let past = past_goes others after next goes branch in
    let following = past_branches others after w in
    let block_goes = i.at following next past.goes in
    let block_ends = ends_trans (commands_before inner following) following w block_goes.ends past.ends in
    let jump = jump_if_op false (length w) ∷ commands_before inner following in
    let f = condition_code c in
    record {
      ends = ends_trans (condition_before c jump) jump after (f.ends jump) (ends_more _ (commands_before inner following) after (ends_trans (commands_before inner following) w after block_ends branch.ends));
      goes = record {
        forward = f.forward jump (forward_jumps_if false (commands_before inner following) w block_ends block_goes.goes.forward);
        walks = f.walks jump (λ r. landed false r (branches_walk others next) (commands_walk inner next)) (walks_jumps_if (commands_before inner following) w (λ r. branches_walk others next) block_ends branch.goes.walks false (λ r. commands_walk inner next) block_goes.goes.walks);
      };
    }

-- COMMANDS

chosen_goes : (branches : Branches) (rest : Commands) → IsBlock (branches_before branches) (branches_walk branches) → IsBlock (commands_before rest) (commands_walk rest) → IsBlock (commands_before (chooses branches rest)) (commands_walk (chooses branches rest))
unfolding commands_before commands_walk
chosen_goes these rest b r = record {
  at = λ after next g.
      let following = r.at after next g in
      let chosen = b.at (commands_before rest after) (commands_walk rest next) following.goes in
      record { ends = ends_trans _ _ after chosen.ends following.ends; goes = chosen.goes };
}

mutual
  unfolding commands_before branches_before commands_walk branches_walk

  pub commands_code : (cs : Commands) → IsBlock (commands_before cs) (commands_walk cs)
  commands_code no_commands = record { at = λ after next g. record { ends = ends_self after; goes = g } }
  commands_code (script.stops rest) = record { at = λ after next g. stops_before _ _ _ ((commands_code rest).at after next g) }
  commands_code (script.returns rest) = record { at = λ after next g. returns_before _ _ _ ((commands_code rest).at after next g) }
  commands_code (script.acts leaf line rest) = record { at = λ after next g. acts_before leaf line _ _ _ ((commands_code rest).at after next g) }
  commands_code (chooses branches rest) = chosen_goes branches rest (branches_code branches) (commands_code rest)

  branches_code : (bs : Branches) → IsBlock (branches_before bs) (branches_walk bs)
  branches_code no_branches = record { at = λ after next g. record { ends = ends_self after; goes = g } }
  branches_code (else_branch inner) = record { at = (commands_code inner).at }
  branches_code (test_branch c inner others) = record { at = test_goes c inner others (commands_code inner) (branches_code others) }
