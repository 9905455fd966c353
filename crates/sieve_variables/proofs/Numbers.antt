-- Numbers of match variables, capped.
use Rattle.octets.specs.Octet.{octet_of}
use Rattle.std.proofs.Common.{◌≡◌, ◌∙◌, ℕ, ◌+◌, ◌-◌, ◌*◌, ◌≤◌, ◌<◌, zero, suc, min, List, [], ◌∷◌, length, get_or, drop, ap, ⊎_elim, arith}
use Rattle.std.proofs.lemmas.Bool.{cases_lt}
use Rattle.sieve_variables.specs.Name.{decimal_from}

-- further digits never make a number less
pub decimal_from-grows : (n : ℕ) (digits : List ℕ) → n ≤ decimal_from n digits
decimal_from-grows n [] = omega arith
decimal_from-grows n (c ∷ cs) = omega (arith, decimal_from-grows (10 * n + (c - octet_of "0")) cs)

-- A number past the limit stays past it. So it may be capped at once.
pub decimal_from-capped : (n : ℕ) (digits : List ℕ) → min (decimal_from (min n 100) digits) 100 ≡ min (decimal_from n digits) 100
decimal_from-capped n digits = ⊎_elim
    (λ (low : n < 100). let same : min n 100 ≡ n = omega arith in ap (λ m. min (decimal_from m digits) 100) same)
    (λ (high : 100 ≤ n). omega (arith, decimal_from-grows n digits, decimal_from-grows (min n 100) digits))
    (cases_lt n 100)

-- a number takes one digit more
pub digit_step : (digits : List ℕ) (i index next : ℕ) → i < length digits → next ≡ min (10 * index + (get_or digits i 0 - octet_of "0")) 100 → min (decimal_from next (drop (suc i) digits)) 100 ≡ min (decimal_from index (drop i digits)) 100
digit_step [] i index next within is = absurd (omega arith)
digit_step (c ∷ cs) zero index next within is =
    ap (λ m. min (decimal_from m cs) 100) is ∙ decimal_from-capped (10 * index + (c - octet_of "0")) cs
digit_step (c ∷ cs) (suc i) index next within is = digit_step cs i index next (omega arith) is
