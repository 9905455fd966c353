-- A flag of a list, found by its spelling.
use Rattle.std.proofs.Common.{◌≡◌, ℕ, zero, suc, ◌<◌, length, get_or, Bool, true, false, not, cond, ◌||◌, List, [], ◌∷◌, None, Some, find, remove, refl, sym, ap, ◌∙◌, true≢false, arith}
use Rattle.std.specs.List.{AllByRecursion, IsDistinct}
use Rattle.match_text.specs.Comparator.{ascii_casemap, octet, same}
use Rattle.flag_lists.specs.Flags.{AreDistinct, flags_without, has_flag, has_key}
use Rattle.flag_lists.specs.view.Hashing.{same_equiv}
use Rattle.match_text.proofs.Deciding.{same-Decides}

-- texts that are equal octet for octet are equal in any case of letters too
octet_folds : (a b : List ℕ) → same octet a b ≡ true → same ascii_casemap a b ≡ true
octet_folds a b is =
    let s = (same-Decides octet a b).0 is in
    (same-Decides ascii_casemap a b).1 (record { equal_lengths = s.equal_lengths; equal_octets = λ i below. ap ascii_casemap (s.equal_octets i below) })

-- texts that aren't equal in any case of letters aren't equal octet for octet
differs : (a b : List ℕ) → same ascii_casemap b a ≡ false → same octet a b ≡ false
differs a b none = by (same octet a b) refl
  where
    by : (s : Bool) → same octet a b ≡ s → same octet a b ≡ false
    by true e = absurd (true≢false (sym (octet_folds a b e) ∙ (same_equiv.symm a b ∙ none)))
    by false e = e

or_none : (s t : Bool) → (s || t) ≡ false → (s ≡ false) × (t ≡ false)
or_none true t e = absurd (true≢false e)
or_none false t e = (refl, e)

-- in any case of letters, a flag is equal to a key exactly if the list has the key
pub has_key-folded : (flags : List (List ℕ)) (key : List ℕ) → has_key (same ascii_casemap) flags key ≡ has_flag flags key
has_key-folded [] key = refl
has_key-folded (x ∷ flags) key = λ j. same_equiv.symm x key j || has_key-folded flags key j

-- no flag is a key octet for octet if none is in any case of letters
has_key-none : (flags : List (List ℕ)) (key : List ℕ) → has_flag flags key ≡ false → has_key (same octet) flags key ≡ false
has_key-none [] key none = refl
has_key-none (x ∷ flags) key none =
    let split = or_none (same ascii_casemap key x) (has_flag flags key) none in
    λ j. differs x key split.0 j || has_key-none flags key split.1 j

-- a key that is the same as a flag is none of the flags that all differ from this one
others_differ : (x key : List ℕ) → same ascii_casemap key x ≡ true → (flags : List (List ℕ)) → AllByRecursion (λ y. same ascii_casemap x y ≡ false) flags → has_flag flags key ≡ false
others_differ x key is [] all = refl
others_differ x key is (y ∷ flags) all = λ j. (same_equiv.congr key x y is ∙ all.0) j || others_differ x key is flags all.1 j

-- Let no two flags be the same. Then the flag that is found is the only one that the key may be
-- octet for octet.
pub has_key-found : (flags : List (List ℕ)) (key found : List ℕ) → AreDistinct flags → find (same ascii_casemap key) flags ≡ Some found → has_key (same octet) flags key ≡ same octet found key
unfolding IsDistinct
has_key-found [] key found h is = absurd cc
has_key-found (x ∷ flags) key found h is = by (same ascii_casemap key x) refl is (λ at. has_key-found flags key found h.1 at)
  where
    or_false : (s : Bool) → (s || false) ≡ s
    or_false true = refl
    or_false false = refl

    by : (s : Bool) → same ascii_casemap key x ≡ s → cond s (Some x) (find (same ascii_casemap key) flags) ≡ Some found
        → (find (same ascii_casemap key) flags ≡ Some found → has_key (same octet) flags key ≡ same octet found key) → (same octet x key || has_key (same octet) flags key) ≡ same octet found key
    by true e at more =
        let it : x ≡ found = cc in
        ap (λ b. same octet x key || b) (has_key-none flags key (others_differ x key e flags h.0)) ∙ or_false (same octet x key) ∙ ap (λ y. same octet y key) it
    by false e at more = ap (λ b. b || has_key (same octet) flags key) (differs x key e) ∙ more at

-- a key of which no flag is found is none of the flags
found_none : (flags : List (List ℕ)) (key : List ℕ) → find (same ascii_casemap key) flags ≡ None → has_flag flags key ≡ false
found_none [] key none = refl
found_none (x ∷ flags) key none = by (same ascii_casemap key x) refl none (λ at. found_none flags key at)
  where
    by : (s : Bool) → same ascii_casemap key x ≡ s → cond s (Some x) (find (same ascii_casemap key) flags) ≡ None
        → (find (same ascii_casemap key) flags ≡ None → has_flag flags key ≡ false) → (same ascii_casemap key x || has_flag flags key) ≡ false
    by true e at more = absurd cc
    by false e at more = ap (λ b. b || has_flag flags key) e ∙ more at

-- no flag is a key octet for octet if none is found in any case of letters
pub none_has : (flags : List (List ℕ)) (key : List ℕ) → find (same ascii_casemap key) flags ≡ None → false ≡ has_key (same octet) flags key
none_has flags key none = sym (has_key-none flags key (found_none flags key none))

-- TAKEN OUT

-- if no two flags are the same, to take one out is to remove it where it stands
pub taken_out : (flags : List (List ℕ)) (flag : List ℕ) (i : ℕ) (d : List ℕ) → AreDistinct flags → i < length flags → same ascii_casemap flag (get_or flags i d) ≡ true
    → ((k : ℕ) → k < i → same ascii_casemap flag (get_or flags k d) ≡ false) → flags_without flags (flag ∷ []) ≡ remove flags i
unfolding IsDistinct flags_without
taken_out [] flag i d h below at before = absurd (omega arith)
taken_out (x ∷ flags) flag zero d h below at before =
    let there = same_equiv.symm x flag ∙ at in
    (λ j. cond (not (there j || false)) (x ∷ flags_without flags (flag ∷ [])) (flags_without flags (flag ∷ []))) ∙ rest flags h.0
  where
    rest : (l : List (List ℕ)) → AllByRecursion (λ y. same ascii_casemap x y ≡ false) l → flags_without l (flag ∷ []) ≡ l
    rest [] all = refl
    rest (y ∷ l) all =
        let e = same_equiv.symm y flag ∙ (same_equiv.congr flag x y at ∙ all.0) in
        let more = rest l all.1 in λ j. cond (not (e j || false)) (y ∷ more j) (more j)
taken_out (x ∷ flags) flag (suc i) d h below at before =
    let e = same_equiv.symm x flag ∙ before 0 (omega arith) in
    let more = taken_out flags flag i d h.1 (omega arith) at (λ k lt. before (suc k) (omega arith)) in
    λ j. cond (not (e j || false)) (x ∷ more j) (more j)

-- taking out a flag that a list doesn't have leaves all flags of the list
pub none_taken : (flags : List (List ℕ)) (flag : List ℕ) → has_flag flags flag ≡ false → flags_without flags (flag ∷ []) ≡ flags
unfolding flags_without
none_taken [] flag none = refl
none_taken (x ∷ flags) flag none =
    let split = or_none (same ascii_casemap flag x) (has_flag flags flag) none in
    let e = same_equiv.symm x flag ∙ split.0 in
    let more = none_taken flags flag split.1 in
    λ j. cond (not (e j || false)) (x ∷ more j) (more j)
