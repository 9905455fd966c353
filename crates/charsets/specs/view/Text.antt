-- A text that a call may answer.
use Rattle.std.specs.Prelude.{ℕ, List, Option, option_map}
use Rattle.std.specs.declared.alloc.Global.{Global}
use Rattle.std.specs.declared.vec.Vec.{Vec}

-- the octets, if there are any
abbrev pub octets_of : Option (Vec ℕ Global) → Option (List ℕ)
octets_of octets = option_map (λ octets. octets.items) octets
