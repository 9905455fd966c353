-- The counts of a device: its faults, and the calls that were made of it.
use Rattle.std.specs.Prelude.{◌≡◌, ℕ, ◌+◌, ◌-◌, ◌^◌, ◌≤◌, ◌==◌, if◌then◌else◌, min, max, Result, MatchResult}

-- the count after one more event; at the greatest u64 it stays
abbrev pub next_count : ℕ → ℕ
next_count n = max n (min (n + 1) (2 ^ 64 - 1))

-- at least one event was counted; at the greatest u64 a count that stays counts as risen
abbrev pub HasRisen : ℕ → ℕ → Type 0
HasRisen old new = next_count old ≤ new

-- a read counts an error as a fault, and no other answer
abbrev pub CountsReadFault : {E : Type 0} → ℕ → ℕ → Result ℕ E → Type 0
CountsReadFault old new answer = MatchResult answer (λ _. new ≡ old) (λ _. new ≡ next_count old)

-- a write of some octets counts an error and an answer of 0 as a fault, and no other answer
abbrev pub CountsWriteFault : {E : Type 0} → ℕ → ℕ → Result ℕ E → Type 0
CountsWriteFault old new answer =
    MatchResult answer (λ n. new ≡ (if n == 0 then next_count old else old)) (λ _. new ≡ next_count old)
