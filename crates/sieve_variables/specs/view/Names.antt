-- The model of a set of names.
use Rattle.std.specs.Prelude.{ℕ, List, map}
use Rattle.std.specs.declared.alloc.Global.{Global}
use Rattle.std.specs.declared.vec.Vec.{Vec}

-- the names in the order in which they came
unfoldable pub names_of : List (Vec ℕ Global) → List (List ℕ)
names_of keys = map (λ key. key.items) keys
