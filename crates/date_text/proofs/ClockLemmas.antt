-- Seconds are read digit by digit, and no further than to the end of the year 9999.
use Rattle.std.proofs.Common.{add-one, drop-cons, ◌≡◌, ℕ, suc, ◌+◌, ◌*◌, ◌<◌, Bool, true, false, cond, List, [], ◌∷◌, length, get_or, drop, Option, Some, None, nat_le, refl, ap, arith}
use Rattle.std.proofs.lemmas.Bool.Decides.{nat_tests}
use Rattle.std.specs.Option.{option_and_then, option_map}
use Rattle.date_text.specs.Clock.{last_second, number_after, seconds_named}
use Rattle.date_text.specs.Number.{digit_number, up_to}

up_to-past : (limit n : ℕ) → limit < n → up_to limit (Some n) ≡ None
up_to-past limit n past = let above : nat_le n limit ≡ false = grind (arith, nat_tests) in ap (λ b. cond b (Some n) None) above

past_with_more : (limit n : ℕ) (rest : List ℕ) → ((m : ℕ) → limit < m → up_to limit (number_after m rest) ≡ None) → limit < n → (d : Option ℕ)
    → up_to limit (option_and_then (λ d. number_after (10 * n + d) rest) d) ≡ None
past_with_more limit n rest further past None = refl
past_with_more limit n rest further past (Some d) = further (10 * n + d) (omega (arith, past))

-- a number past a limit stays past it, whatever digits follow
stays_past : (limit n : ℕ) (rest : List ℕ) → limit < n → up_to limit (number_after n rest) ≡ None
stays_past limit n [] past = up_to-past limit n past
stays_past limit n (c ∷ rest) past = past_with_more limit n rest (λ m. stays_past limit m rest) past (digit_number c)

-- the digits after one that leads past the limit don't matter
cut_at : (limit m : ℕ) (rest : List ℕ) (b : Bool) → nat_le m limit ≡ b
    → up_to limit (number_after m rest) ≡ option_and_then (λ m. up_to limit (number_after m rest)) (cond b (Some m) None)
cut_at limit m rest true is = refl
cut_at limit m rest false is = stays_past limit m rest (grind (arith, nat_tests, is))

digit_more : (limit n : ℕ) (rest : List ℕ) (d : Option ℕ)
    → up_to limit (option_and_then (λ d. number_after (10 * n + d) rest) d) ≡ option_and_then (λ m. up_to limit (number_after m rest)) (up_to limit (option_map (λ d. 10 * n + d) d))
digit_more limit n rest None = refl
digit_more limit n rest (Some d) = cut_at limit (10 * n + d) rest (nat_le (10 * n + d) limit) refl

-- the next digit is read, and then the rest
pub one_more : (limit n : ℕ) (digits : List ℕ) (i : ℕ) → i < length digits
    → up_to limit (number_after n (drop i digits)) ≡ option_and_then (λ m. up_to limit (number_after m (drop (i + 1) digits))) (up_to limit (option_map (λ d. 10 * n + d) (digit_number (get_or digits i 0))))
one_more limit n digits i h = rw (add-one, drop-cons digits i 0) (digit_more limit n (drop (suc i) digits) (digit_number (get_or digits i 0)))

-- where there is a digit, the seconds are those of all digits, read from 0 on
pub of_some : (digits : List ℕ) → 0 < length digits → seconds_named digits ≡ up_to last_second (number_after 0 digits)
of_some [] some = absurd (omega arith)
of_some (c ∷ rest) some = refl
