-- Octets that are taken off a session's input.
use Rattle.std.specs.Prelude.{◌≡◌, ⊤, ℕ, ◌<◌, ◌≤◌, List, ◌++◌, length, take, drop, Option, None, Some, IfSome}
use Rattle.std.specs.Io.KnownBytes.{IsAtEnd}
use Rattle.std.specs.declared.vec.Vec.{Vec}
use Rattle.std.specs.declared.alloc.Global.{Global}
use Rattle.session_text.specs.declared.payload.Taken.{Taken}
use Rattle.session_text.specs.declared.payload.Taken.TheVariants.{Whole, Truncated, Failed, Spent}

abbrev pub octets_kept : Vec ℕ Global → List ℕ
octets_kept v = v.items

-- the kept octets have grown by these, or are no longer kept
abbrev pub Grows : Option (List ℕ) → Option (List ℕ) → List ℕ → Type 0
Grows old None octets = ⊤
Grows None (Some new) octets = ⊥
Grows (Some old) (Some new) octets = new ≡ old ++ octets

-- the first octets were taken, and these are kept, if any are
abbrev pub Takes : ℕ → Option (List ℕ) → Option (List ℕ) → Option (List ℕ) → Type 0
Takes count None new kept = ⊤
Takes count (Some xs) None kept = ⊥
Takes count (Some xs) (Some ys) kept = (count ≤ length xs) × (ys ≡ drop count xs) × IfSome kept (λ octets. octets ≡ take count xs)

-- there are fewer octets, and the input is at its end
abbrev pub FallsShort : ℕ → Option (List ℕ) → Option (List ℕ) → Type 0
FallsShort count None new = IsAtEnd new
FallsShort count (Some xs) new = (length xs < count) × IsAtEnd new

-- the octets that were read end before all are there
abbrev pub BreaksOff : ℕ → Option (List ℕ) → Option (List ℕ) → Type 0
BreaksOff count None left = ⊤
BreaksOff count (Some xs) None = ⊥
BreaksOff count (Some xs) (Some ys) = (read : List ℕ) × (xs ≡ read ++ ys) × (length read < count)

-- a fact for each way that taking octets may go
abbrev pub MatchTaken : Taken → (Option (Vec ℕ Global) → Type 0) → Type 0 → Type 0 → Type 0 → Type 0
MatchTaken (Whole kept) P Q R S = P kept
MatchTaken Truncated P Q R S = Q
MatchTaken Failed P Q R S = R
MatchTaken Spent P Q R S = S
