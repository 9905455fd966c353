-- Flags in a list, each at the place of a value.
use Rattle.std.proofs.Common.{◌≡◌, ℕ, zero, suc, Bool, true, false, ◌||◌, nat_eq, List, [], ◌∷◌, map, length, None, Some, slice_get, slice_index_or, slice_set, refl, ap, sym, ◌∙◌}
use Rattle.std.proofs.Math.Dec.{eqb-suc-suc, eqb-suc-zero, eqb-zero-suc}

or_true : (b : Bool) → (b || true) ≡ true
or_true true = refl
or_true false = refl

or_false : (b : Bool) → (b || false) ≡ b
or_false true = refl
or_false false = refl

-- the places before one
abbrev pub places : ℕ → List ℕ
places zero = []
places (suc n) = zero ∷ map suc (places n)

of_mapped : (f : ℕ → Bool) (ns : List ℕ) → map f (map suc ns) ≡ map (λ n. f (suc n)) ns
of_mapped f [] = refl
of_mapped f (n ∷ ns) = ap (λ bs. f (suc n) ∷ bs) (of_mapped f ns)

same_flags : (f g : ℕ → Bool) → ((n : ℕ) → f n ≡ g n) → (ns : List ℕ) → map f ns ≡ map g ns
same_flags f g same ns = ap (λ (h : ℕ → Bool). map h ns) (λ i n. same n i)

each_flag : (flags : List Bool) → flags ≡ map (λ n. slice_index_or flags n false) (places (length flags))
each_flag [] = refl
each_flag (b ∷ flags) = ap (λ bs. b ∷ bs) (each_flag flags ∙ sym (of_mapped (λ n. slice_index_or (b ∷ flags) n false) (places (length flags))))

two : {b c : Bool} {bs cs : List Bool} → b ≡ c → bs ≡ cs → (b ∷ bs) ≡ (c ∷ cs)
two {b} {c} {bs} {cs} first rest = ap (λ x. x ∷ bs) first ∙ ap (λ xs. c ∷ xs) rest

-- a flag that is set at a place is set there, and the others are as before
pub each_set : (flags : List Bool) (k : ℕ) → slice_set flags k true ≡ map (λ n. slice_index_or flags n false || nat_eq k n) (places (length flags))
each_set [] k = refl
each_set (b ∷ flags) zero =
    two (sym (or_true b))
    (each_flag flags
    ∙ same_flags (λ n. slice_index_or flags n false) (λ n. slice_index_or flags n false || nat_eq zero (suc n))
    (λ n. sym (or_false (slice_index_or flags n false)) ∙ ap (λ c. slice_index_or flags n false || c) (sym (eqb-zero-suc n))) (places (length flags))
    ∙ sym (of_mapped (λ n. slice_index_or (b ∷ flags) n false || nat_eq zero n) (places (length flags))))
each_set (b ∷ flags) (suc k) =
    two (sym (or_false b) ∙ ap (λ c. b || c) (sym (eqb-suc-zero k)))
    (each_set flags k
    ∙ same_flags (λ n. slice_index_or flags n false || nat_eq k n) (λ n. slice_index_or flags n false || nat_eq (suc k) (suc n))
    (λ n. ap (λ c. slice_index_or flags n false || c) (sym (eqb-suc-suc k n))) (places (length flags))
    ∙ sym (of_mapped (λ n. slice_index_or (b ∷ flags) n false || nat_eq (suc k) n) (places (length flags))))

-- the test of a value is the flag at the value's place
pub flag_at : {E : Type 0} (is_in : E → Bool) (xs : List E) (n : ℕ) (x : E) → slice_get xs n ≡ Some x → slice_index_or (map is_in xs) n false ≡ is_in x
flag_at is_in [] n x is = absurd (nothing is)
  where
    nothing : None ≡ Some x → ⊥
    nothing e = cc
flag_at is_in (y ∷ ys) zero x is = first is
  where
    first : Some y ≡ Some x → is_in y ≡ is_in x
    first e = cc
flag_at is_in (y ∷ ys) (suc n) x is = flag_at is_in ys n x is
