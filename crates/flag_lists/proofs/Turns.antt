-- The flags of texts are added and taken out one text after the other.
use Rattle.std.proofs.Common.{◌≡◌, ℕ, Bool, true, false, not, cond, ◌||◌, List, [], ◌∷◌, ◌++◌, flat_map, refl, sym, ap, ◌∙◌, true≢false}
use Rattle.match_text.specs.Comparator.{ascii_casemap, same}
use Rattle.flag_lists.specs.Flags.{distinct, flag_union, flags_in, flags_of_texts, flags_without, has_flag}
use Rattle.flag_lists.specs.view.Hashing.{same_equiv}
use Rattle.flag_lists.proofs.FlagLists.{distinct_distinct, distinct_stays, union_append, without_alike, without_twice}

-- adding each of some flags once adds the flags
union_distinct : (a flags : List (List ℕ)) → flag_union a (distinct flags) ≡ flag_union a flags
unfolding flag_union
union_distinct a flags = ap (λ l. a ++ flags_without l a) (distinct_stays (distinct flags) (distinct_distinct flags))

-- a list keeps its flags besides the one that is taken out
has_without : (flags : List (List ℕ)) (flag x : List ℕ) → (same ascii_casemap x flag || has_flag (flags_without flags (flag ∷ [])) x) ≡ (same ascii_casemap x flag || has_flag flags x)
unfolding flags_without
has_without [] flag x = refl
has_without (y ∷ flags) flag x = by (same ascii_casemap y flag) refl (same ascii_casemap x flag) refl (same ascii_casemap x y) refl (has_without flags flag x)
  where
    others : same ascii_casemap x flag ≡ false → (same ascii_casemap x flag || has_flag (flags_without flags (flag ∷ [])) x) ≡ (same ascii_casemap x flag || has_flag flags x)
        → has_flag (flags_without flags (flag ∷ [])) x ≡ has_flag flags x
    others apart rest = sym (ap (λ b. b || has_flag (flags_without flags (flag ∷ [])) x) apart) ∙ rest ∙ ap (λ b. b || has_flag flags x) apart

    by : (is : Bool) → same ascii_casemap y flag ≡ is → (s : Bool) → same ascii_casemap x flag ≡ s → (t : Bool) → same ascii_casemap x y ≡ t
        → (same ascii_casemap x flag || has_flag (flags_without flags (flag ∷ [])) x) ≡ (same ascii_casemap x flag || has_flag flags x)
        → (s || has_flag (cond (not (is || false)) (y ∷ flags_without flags (flag ∷ [])) (flags_without flags (flag ∷ []))) x) ≡ (s || (t || has_flag flags x))
    by true e true f t g rest = refl
    by true e false f true g rest = absurd (true≢false (sym (same_equiv.congr x y flag g ∙ e) ∙ f))
    by true e false f false g rest = others f rest
    by false e true f t g rest = refl
    by false e false f t g rest = ap (λ b. b || has_flag (flags_without flags (flag ∷ [])) x) g ∙ ap (λ b. t || b) (others f rest)

-- a list in which each flag is taken once has the same flags as the whole list
has_distinct : (flags : List (List ℕ)) (x : List ℕ) → has_flag (distinct flags) x ≡ has_flag flags x
unfolding distinct
has_distinct [] x = refl
has_distinct (flag ∷ flags) x = has_without (distinct flags) flag x ∙ ap (λ b. same ascii_casemap x flag || b) (has_distinct flags x)

-- taking out each of some flags once takes out the flags
without_distinct : (flags others : List (List ℕ)) → flags_without flags (distinct others) ≡ flags_without flags others
without_distinct flags others = without_alike (distinct others) others (has_distinct others) flags

pub added : (flags : List (List ℕ)) (text : List ℕ) (texts : List (List ℕ)) → flag_union flags (flags_of_texts (text ∷ texts)) ≡ flag_union (flag_union flags (flags_in text)) (flags_of_texts texts)
unfolding flags_of_texts
added flags text texts =
    union_distinct flags (flat_map flags_in (text ∷ texts))
    ∙ sym (union_append flags (flags_in text) (flat_map flags_in texts))
    ∙ sym (union_distinct (flag_union flags (flags_in text)) (flat_map flags_in texts))

pub taken : (flags : List (List ℕ)) (text : List ℕ) (texts : List (List ℕ)) → flags_without flags (flags_of_texts (text ∷ texts)) ≡ flags_without (flags_without flags (flags_in text)) (flags_of_texts texts)
unfolding flags_of_texts
taken flags text texts =
    without_distinct flags (flat_map flags_in (text ∷ texts))
    ∙ sym (without_twice flags (flags_in text) (flat_map flags_in texts))
    ∙ sym (without_distinct (flags_without flags (flags_in text)) (flat_map flags_in texts))
