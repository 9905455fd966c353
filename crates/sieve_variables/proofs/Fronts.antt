-- Fronts of strings that are put together.
use Rattle.std.proofs.Common.{◌≡◌, ℕ, zero, suc, ◌-◌, ◌≤◌, Bool, true, false, List, [], ◌∷◌, ◌++◌, length, take, refl, sym, ap, ◌∙◌, arith}
use Rattle.std.proofs.lemmas.List.{length-append, length-take}
use Rattle.std.specs.List.{flat_map}
use Rattle.sieve_limits.specs.Limits.{value_limit}
use Rattle.sieve_variables.specs.Modifier.{modified, quoted_wildcard, with_case, with_first}
use Rattle.sieve_variables.specs.declared.modifier.Modifiers.{Modifiers}
use Rattle.sieve_variables.proofs.Modified.{modified-plain, modified-quoted}

-- the front of a text needs only the front of its first part
take_front : (n : ℕ) (x r : List ℕ) → take n (take n x ++ r) ≡ take n (x ++ r)
take_front zero x r = refl
take_front (suc n) [] r = refl
take_front (suc n) (c ∷ x) r = ap (λ (l : List ℕ). c ∷ l) (take_front n x r)

-- octets of which no more are taken than are left stay within a limit
pub length-take_most : (n k : ℕ) (b x : List ℕ) → length b ≤ n → k ≡ n - length b → length (b ++ take k x) ≤ n
length-take_most n k b x within is = omega (arith, within, is, length-append b (take k x), length-take k x)

-- after octets within a limit, those past it don't count
pub front_more : (n k : ℕ) (b x r : List ℕ) → length b ≤ n → k ≡ n - length b → take n (b ++ (take k x ++ r)) ≡ take n (b ++ (x ++ r))
front_more n k [] x r within left = let whole : k ≡ n = omega (arith, left) in ap (λ j. take n (take j x ++ r)) whole ∙ take_front n x r
front_more zero k (c ∷ b) x r within left = absurd (omega (arith, within))
front_more (suc n) k (c ∷ b) x r within left =
    ap (λ (l : List ℕ). c ∷ l) (front_more n k b x r (omega (arith, within)) (omega (arith, left)))

take_twice : (n : ℕ) (value : List ℕ) → take n (take n value) ≡ take n value
take_twice zero value = refl
take_twice (suc n) [] = refl
take_twice (suc n) (c ∷ value) = ap (λ (l : List ℕ). c ∷ l) (take_twice n value)

-- a value that is modified without `:length` comes from the front of the value
pub modified_front : (m : Modifiers) (value : List ℕ) → m.length ≡ false → modified m (take value_limit value) ≡ modified m value
modified_front m value plain = by m.quote_wildcard refl
  where
    by : (b : Bool) → m.quote_wildcard ≡ b → modified m (take value_limit value) ≡ modified m value
    by true q =
        sym (modified-quoted m (take value_limit value) plain q)
        ∙ ap (λ (v : List ℕ). take value_limit (flat_map quoted_wildcard (with_first m.first_letter (with_case m.letter_case v)))) (take_twice value_limit value) ∙ modified-quoted m value plain q
    by false q =
        sym (modified-plain m (take value_limit value) plain q)
        ∙ ap (λ (v : List ℕ). with_first m.first_letter (with_case m.letter_case v)) (take_twice value_limit value) ∙ modified-plain m value plain q
