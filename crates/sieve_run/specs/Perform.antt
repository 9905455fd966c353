-- The leaves of a walk, done in turn up to the first that ends the run.
use Rattle.std.specs.Prelude.{ℕ, Bool, true, false, List, [], ◌∷◌}
use Rattle.sieve_script.specs.Reading.{Ask, Leaf}
use Rattle.sieve_code.specs.Walk.{Walk, at_end, by_stop, by_return, cut_off, asked, acted, Met, met_ask, met_leaf, WalkEnd, ended, unanswered, unfinished, Gone, gone}
use Rattle.sieve_code.specs.Walk as walk
use Rattle.sieve_delivery.specs.Ending.{Ending, goes_on, returned, stopped, failed}
use Rattle.sieve_run.specs.Run.{Answer, and_then, chosen}
use Rattle.sieve_delivery.specs.State.{RunState}

-- `ask` answers tests, and the truth of a test is the walk's next answer. `act` carries out
-- commands that act. No walk of a script is cut off.
unfoldable pub perform : (Ask → RunState → Answer) → (Leaf → ℕ → RunState → Ending) → Walk → RunState → Ending
perform ask act at_end state = goes_on state
perform ask act by_stop state = stopped state
perform ask act by_return state = returned state
perform ask act cut_off state = goes_on state
perform ask act (asked a so otherwise) state = chosen (ask a state).truth (perform ask act so) (perform ask act otherwise) (ask a state).state
perform ask act (acted leaf line next) state = and_then (act leaf line state) (perform ask act next)

-- WITH A LIST OF ANSWERS

-- The answers on one of two walks, by a truth. Then the answers after a command, if it didn't end
-- the run.
abbrev pub chosen_answers : Bool → (RunState → List Bool) → (RunState → List Bool) → RunState → List Bool
chosen_answers true held otherwise state = held state
chosen_answers false held otherwise state = otherwise state

abbrev pub answers_after : Ending → (RunState → List Bool) → List Bool
answers_after (goes_on state) next = next state
answers_after (returned state) next = []
answers_after (stopped state) next = []
answers_after (failed error state) next = []

-- the truths of the tests that a walk asks, in order
unfoldable pub answers_of : (Ask → RunState → Answer) → (Leaf → ℕ → RunState → Ending) → Walk → RunState → List Bool
answers_of ask act at_end state = []
answers_of ask act by_stop state = []
answers_of ask act by_return state = []
answers_of ask act cut_off state = []
answers_of ask act (asked a so otherwise) state = (ask a state).truth ∷ chosen_answers (ask a state).truth (answers_of ask act so) (answers_of ask act otherwise) (ask a state).state
answers_of ask act (acted leaf line next) state = answers_after (act leaf line state) (answers_of ask act next)

-- the tests and commands that were met, done in turn up to the first that ends the run
unfoldable pub do_met : (Ask → RunState → Answer) → (Leaf → ℕ → RunState → Ending) → List Met → RunState → Ending
do_met ask act [] state = goes_on state
do_met ask act (met_ask a ∷ met) state = do_met ask act met (ask a state).state
do_met ask act (met_leaf leaf line ∷ met) state = and_then (act leaf line state) (do_met ask act met)

-- the ending of the run after them, by the end of the walk
abbrev pub end_of : WalkEnd → RunState → Ending
end_of ended state = goes_on state
end_of walk.stopped state = stopped state
end_of walk.returned state = returned state
end_of unanswered state = goes_on state
end_of unfinished state = goes_on state

abbrev pub do_gone : (Ask → RunState → Answer) → (Leaf → ℕ → RunState → Ending) → Gone → RunState → Ending
do_gone ask act one state = and_then (do_met ask act one.met state) (end_of one.ending)
