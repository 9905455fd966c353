use Rattle.std.proofs.Common.{◌≡◌, ◌-◌, ◌+◌, ◌*◌, length}
use Rattle.sieve_code.specs.Walk.{code_walk, walk_from}
use Rattle.sieve_code.specs.view.Code.{ops_of}
use Rattle.sieve_run.specs.Library.{library_of}
use Rattle.sieve_run.specs.Run.{act_of}
use Rattle.sieve_delivery.specs.view.Delivery.{delivery_as}
use Rattle.sieve_delivery.specs.view.State.{state_of}
use Rattle.sieve_run.specs.view.Step.{doing}
use Rattle.sieve_run.proofs.steps.+execute.Given as goal

-- The message stays. The walk from the place, in the turns that are left, gives what the whole walk
-- gives.
abbrev pub invariant-execute-loop-turn : goal.invariant-execute-loop-turn
invariant-execute-loop-turn g l =
    let running = l.running in
    let ops = ops_of running.code.now in
    let d = delivery_as running.delivery.now in
    let act = act_of (library_of (g.L.Library.profile running.lib.now) (g.L.Library.texts running.lib.now)) running.depth d in
    (l.fields ≡ l.initial.fields) × (doing act d (walk_from ops (length ops - l._turn) l.place l.register) (state_of l.state) ≡ doing act d (code_walk ops (length ops)) (state_of l.fn.state))

-- The number of levels of includes that are still allowed. Within one level, the distance from a
-- script's code to a script that it includes.
abbrev pub decreases-execute : goal.decreases-execute
decreases-execute g l = 9 * l.running.now.depth + 6

abbrev pub decreases-carry_out : goal.decreases-carry_out
decreases-carry_out g l = 9 * l.running.now.depth + 5

abbrev pub decreases-act_at : goal.decreases-act_at
decreases-act_at g l = 9 * l.running.now.depth + 4

abbrev pub decreases-act : goal.decreases-act
decreases-act g l = 9 * l.running.now.depth + 3

abbrev pub decreases-include_named : goal.decreases-include_named
decreases-include_named g l = 9 * l.running.now.depth + 2

abbrev pub decreases-include : goal.decreases-include
decreases-include g l = 9 * l.running.now.depth + 1

abbrev pub decreases-look_up : goal.decreases-look_up
decreases-look_up g l = 9 * l.running.now.depth + 9

abbrev pub decreases-enter : goal.decreases-enter
decreases-enter g l = 9 * l.running.now.depth + 8

abbrev pub decreases-execute_inside : goal.decreases-execute_inside
decreases-execute_inside g l = 9 * l.running.now.depth + 7
