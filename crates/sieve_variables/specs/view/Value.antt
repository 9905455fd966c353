-- The models of the values of variables.
use Rattle.std.specs.Prelude.{ℕ, List, map}
use Rattle.std.specs.declared.alloc.Global.{Global}
use Rattle.std.specs.declared.vec.Vec.{Vec}
use Rattle.sieve_variables.specs.Value.{Own, Values}

-- The variables while a script runs, and the state that it doesn't share. No types of the program
-- have these names.
abbrev pub ValuesState : Type 0
ValuesState = Values

abbrev pub OwnState : Type 0
OwnState = Own

-- the variables in the order in which they were first set: names with values
unfoldable pub held_of : List (Vec ℕ Global × List ℕ) → List (List ℕ × List ℕ)
held_of entries = map (λ e. (e.0.items, e.1)) entries
