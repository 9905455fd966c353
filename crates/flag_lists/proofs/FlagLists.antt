-- Lists of flags that are joined, filtered and taken once each.
use Rattle.std.proofs.Common.{◌≡◌, ℕ, Some, SomeIndex, zero, suc, ◌-◌, arith, ◌+◌, ◌<◌, ◌≤◌, length, drop, get_or, take, Bool, true, false, not, cond, ◌&&◌, ◌||◌, List, [], ◌∷◌, ◌++◌, filter, if◌then◌else◌, refl, sym, ap, subst, ◌∙◌, append-nil, append_assoc, true≢false}
use Rattle.std.specs.List.{All, AllByRecursion, IsDistinct, flat_map, slice_get}
use Rattle.std.proofs.lemmas.List.{at_drop_more, drop_all, length-drop, take_all, take_more, take_rest}
use Rattle.std.proofs.Math.Seq.{take-add, take-nil}
use Rattle.std.proofs.lemmas.List.Elements.{All-cons, All-filter, All-get_or, All-head, All-more, All-nil, All-tail, filter-append, filter_agree, filter_passes}
use Rattle.std.proofs.lemmas.List.Folds.{list_any-append}
use Rattle.std.proofs.lemmas.Map.Steps.{list_any_congr}
use Rattle.std.proofs.lemmas.Option.{get_or_from_slice_get, slice_get_within}
use Rattle.indexmap.specs.IndexSet.{insert_key}
use Rattle.match_text.specs.Comparator.{ascii_casemap, same}
use Rattle.flag_lists.specs.Flags.{AreDistinct, distinct, flag_list, flag_union, flags_in, flags_of_texts, flags_without, has_flag, is_flag, pieces}
use Rattle.flag_lists.specs.view.Hashing.{same_equiv}

-- FILTERS

module _ {X : Type 0} (p q r : X → Bool) where
  -- filtering by two tests in turn filters by both tests
  filter_twice : ((x : X) → (p x && q x) ≡ r x) → (xs : List X) → filter q (filter p xs) ≡ filter r xs
  filter_twice both [] = refl
  filter_twice both (x ∷ xs) = by (p x) (both x) (filter_twice both xs)
    where
      by : (s : Bool) → (s && q x) ≡ r x → filter q (filter p xs) ≡ filter r xs
          → filter q (cond s (x ∷ filter p xs) (filter p xs)) ≡ cond (r x) (x ∷ filter r xs) (filter r xs)
      by true e rest = λ j. cond (e j) (x ∷ rest j) (rest j)
      by false e rest = λ j. cond (e j) (x ∷ rest j) (rest j)

-- FLAGS THAT AREN'T AMONG OTHERS

abbrev other : List (List ℕ) → List ℕ → Bool
other others flag = not (has_flag others flag)

either_not : (s t : Bool) → (not s && not t) ≡ not (s || t)
either_not true t = refl
either_not false t = refl

-- flags without some flags, and then without others, are the flags without both
pub without_twice : (flags a b : List (List ℕ)) → flags_without (flags_without flags a) b ≡ flags_without flags (a ++ b)
unfolding flags_without
without_twice flags a b =
    filter_twice (other a) (other b) (other (a ++ b))
    (λ flag. either_not (has_flag a flag) (has_flag b flag) ∙ ap not (sym (list_any-append (same ascii_casemap flag) a b))) flags

pub without_alike : (a b : List (List ℕ)) → ((flag : List ℕ) → has_flag a flag ≡ has_flag b flag) → (flags : List (List ℕ))
    → flags_without flags a ≡ flags_without flags b
unfolding flags_without
without_alike a b alike flags = filter_agree (other a) (other b) (λ flag. ap not (alike flag)) flags

-- taking out no flags leaves all
pub without_none : (flags : List (List ℕ)) → flags_without flags [] ≡ flags
unfolding flags_without
without_none [] = refl
without_none (flag ∷ flags) = ap (λ l. flag ∷ l) (without_none flags)

pub without-cons : (flag : List ℕ) (flags others : List (List ℕ))
    → flags_without (flag ∷ flags) others ≡ flags_without (flag ∷ []) others ++ flags_without flags others
unfolding flags_without
without-cons flag flags others = filter-append (other others) (flag ∷ []) flags

-- UNIONS

pub union_nil : (a : List (List ℕ)) → flag_union a [] ≡ a
unfolding flag_union distinct flags_without
union_nil a = append-nil a

-- the union with one flag is the list with the flag inserted as into a set
pub union_one : (a : List (List ℕ)) (flag : List ℕ) → insert_key (same ascii_casemap) a flag ≡ flag_union a (flag ∷ [])
unfolding flag_union distinct flags_without
union_one a flag = by (has_flag a flag)
  where
    by : (b : Bool) → (if b then a else a ++ flag ∷ []) ≡ a ++ cond (not b) (flag ∷ []) []
    by true = sym (append-nil a)
    by false = refl

or_swap : (s t : Bool) → (t || (s || false)) ≡ (s || t)
or_swap true true = refl
or_swap true false = refl
or_swap false true = refl
or_swap false false = refl

-- a flag is in the union with one flag exactly if it is in the list with that flag added
has_one_more : (a : List (List ℕ)) (flag x : List ℕ) → has_flag (flag_union a (flag ∷ [])) x ≡ has_flag (flag ∷ a) x
unfolding flag_union distinct flags_without
has_one_more a flag x = by (has_flag a flag) refl
  where
    there : (b : Bool) → same ascii_casemap x flag ≡ b → has_flag a flag ≡ true → has_flag a x ≡ (b || has_flag a x)
    there true e h = list_any_congr same_equiv x flag a e ∙ h
    there false e h = refl

    by : (b : Bool) → has_flag a flag ≡ b → has_flag (a ++ cond (not b) (flag ∷ []) []) x
        ≡ (same ascii_casemap x flag || has_flag a x)
    by true h = ap (λ l. has_flag l x) (append-nil a) ∙ there (same ascii_casemap x flag) refl h
    by false h = list_any-append (same ascii_casemap x) a (flag ∷ []) ∙ or_swap (same ascii_casemap x flag) (has_flag a x)

-- a union takes one flag after the other
pub union_step : (a : List (List ℕ)) (flag : List ℕ) (flags : List (List ℕ))
    → flag_union (flag_union a (flag ∷ [])) flags ≡ flag_union a (flag ∷ flags)
unfolding flag_union distinct flags_without
union_step a flag flags =
    ap (λ l. (a ++ flags_without (flag ∷ []) a) ++ l)
    (without_alike (flag_union a (flag ∷ [])) (flag ∷ a) (has_one_more a flag) (distinct flags) ∙ sym (without_twice (distinct flags) (flag ∷ []) a))
    ∙ append_assoc a (flags_without (flag ∷ []) a) (flags_without (flags_without (distinct flags) (flag ∷ [])) a)
    ∙ ap (λ l. a ++ l) (sym (without-cons flag (flags_without (distinct flags) (flag ∷ [])) a))

-- a union takes one list after the other
pub union_append : (a b c : List (List ℕ)) → flag_union (flag_union a b) c ≡ flag_union a (b ++ c)
union_append a [] c = ap (λ l. flag_union l c) (union_nil a)
union_append a (flag ∷ b) c =
    ap (λ l. flag_union l c) (sym (union_step a flag b))
    ∙ union_append (flag_union a (flag ∷ [])) b c ∙ union_step a flag (b ++ c)

-- the union with the first i flags and then the next is the union with the first i + 1
pub union_so_far : (a flags : List (List ℕ)) (i : ℕ) (d : List ℕ) (old new : List (List ℕ)) → i < length flags → new ≡ flag_union old (get_or flags i d ∷ [])
    → old ≡ flag_union a (take i flags) → new ≡ flag_union a (take (i + 1) flags)
union_so_far a flags i d old new below made is =
    made ∙ ap (λ l. flag_union l (get_or flags i d ∷ [])) is ∙ union_append a (take i flags) (get_or flags i d ∷ [])
    ∙ ap (flag_union a) (sym (take_more flags i d below))

-- FLAGS THAT ARE THERE

pub union_present : (a : List (List ℕ)) (flag : List ℕ) → has_flag a flag ≡ true → flag_union a (flag ∷ []) ≡ a
union_present a flag there = sym (union_one a flag) ∙ ap (λ b. if b then a else a ++ flag ∷ []) there

-- flags that a list already has add nothing to its union with them
union_known : (a b c : List (List ℕ)) → All (λ flag. has_flag a flag ≡ true) b → flag_union a (b ++ c) ≡ flag_union a c
union_known a [] c known = refl
union_known a (flag ∷ b) c known =
    sym (union_step a flag (b ++ c)) ∙ ap (λ l. flag_union l (b ++ c)) (union_present a flag (All-head (λ x. has_flag a x ≡ true) flag b known))
    ∙ union_known a b c (All-tail (λ x. has_flag a x ≡ true) flag b known)

in_two : {X : Type 0} (n : ℕ) (xs : List X) → take n xs ++ drop n xs ≡ xs
in_two zero xs = refl
in_two (suc n) [] = refl
in_two (suc n) (x ∷ xs) = ap (λ l. x ∷ l) (in_two n xs)

pub union_after : (a flags : List (List ℕ)) (n : ℕ) → n ≤ length flags → All (λ flag. has_flag a flag ≡ true) (take n flags) → flag_union a (drop n flags) ≡ flag_union a flags
union_after a flags n within known = sym (union_known a (take n flags) (drop n flags) known) ∙ ap (flag_union a) (in_two n flags)

-- if a list has the first n of some flags, its union with the rest is its union with all
pub union_slice : (a flags items : List (List ℕ)) (n : ℕ) → items ≡ flags → n ≤ length flags → All (λ flag. has_flag a flag ≡ true) (take n flags)
    → flag_union a (take (length items - n) (drop n items)) ≡ flag_union a flags
union_slice a flags items n are within known =
    let long = length-drop n flags in
    ap (λ l. flag_union a (take (length l - n) (drop n l))) are ∙ ap (flag_union a) (take_all (length flags - n) (drop n flags) (omega arith)) ∙ union_after a flags n within known

-- Let a list have the first n of some flags. A union with a front of the rest is one with a front
-- of all, at least `known` long.
pub union_after_some : (a flags items : List (List ℕ)) (known n : ℕ) (new : List (List ℕ)) → items ≡ flags → known ≤ n → n ≤ length flags
    → All (λ flag. has_flag a flag ≡ true) (take n flags)
    → SomeIndex (take (length items - n) (drop n items)) (λ i. new ≡ flag_union a (take i (take (length items - n) (drop n items))))
    → SomeIndex flags (λ i. (known ≤ i) × (new ≡ flag_union a (take i flags)))
union_after_some a flags items known n new are more within there some =
    let is = ap (λ l. take (length l - n) (drop n l)) are ∙ take_rest flags n in
    after (subst (λ l. SomeIndex l (λ i. new ≡ flag_union a (take i l))) is some)
  where
    after : SomeIndex (drop n flags) (λ i. new ≡ flag_union a (take i (drop n flags))) → SomeIndex flags (λ i. (known ≤ i) × (new ≡ flag_union a (take i flags)))
    after (i, below, made) =
        let long = length-drop n flags in
        (n + i, omega arith, (omega arith, made ∙ sym (union_known a (take n flags) (take i (drop n flags)) there) ∙ ap (flag_union a) (sym (take-add n i flags))))

-- a slice of flags from their end on is empty
pub none_after : (flags items : List (List ℕ)) (n : ℕ) → items ≡ flags → n ≡ length flags → take (length items - n) (drop n items) ≡ []
none_after flags items n are end =
    ap (λ l. take (length l - n) (drop n l)) are ∙ ap (take (length flags - n)) (drop_all n flags (omega arith)) ∙ take-nil (length flags - n)

-- a list that has the first i flags, and the next one, has the first i + 1
pub there_more : (a flags : List (List ℕ)) (i : ℕ) (flag : List ℕ) → slice_get flags i ≡ Some flag → has_flag a flag ≡ true
    → All (λ x. has_flag a x ≡ true) (take i flags) → All (λ x. has_flag a x ≡ true) (take (i + 1) flags)
there_more a flags i flag at there before =
    All-more (λ x. has_flag a x ≡ true) flags i [] (slice_get_within flags i flag at) before (ap (has_flag a) (get_or_from_slice_get flags i flag [] at) ∙ there)

-- a list that lacks one of some flags doesn't have all
pub one_missing : (a flags : List (List ℕ)) (i : ℕ) (flag : List ℕ) → slice_get flags i ≡ Some flag → has_flag a flag ≡ false
    → All (λ x. has_flag a x ≡ true) flags → ⊥
one_missing a flags i flag at missing all =
    true≢false
    (sym (All-get_or (λ x. has_flag a x ≡ true) flags i [] (slice_get_within flags i flag at) all) ∙ ap (has_flag a) (get_or_from_slice_get flags i flag [] at) ∙ missing)

-- a union keeps the flags of the first list
pub union_keeps : (a b : List (List ℕ)) (x : List ℕ) → has_flag a x ≡ true → has_flag (flag_union a b) x ≡ true
unfolding flag_union
union_keeps a b x there = list_any-append (same ascii_casemap x) a (flags_without (distinct b) a) ∙ ap (λ s. s || has_flag (flags_without (distinct b) a) x) there

-- a union has all flags of the second list
pub union_has : (a b : List (List ℕ)) → All (λ flag. has_flag (flag_union a b) flag ≡ true) b
union_has a [] = All-nil (λ flag. has_flag (flag_union a []) flag ≡ true)
union_has a (flag ∷ b) =
    let more = union_has (flag_union a (flag ∷ [])) b in
    All-cons (λ x. has_flag (flag_union a (flag ∷ b)) x ≡ true) flag b
    (ap (λ l. has_flag l flag) (sym (union_step a flag b)) ∙ union_keeps (flag_union a (flag ∷ [])) b flag (has_one_more a flag flag ∙ ap (λ s. s || has_flag a flag) (same_equiv.refl flag)))
    (subst (λ l. All (λ x. has_flag l x ≡ true) b) (union_step a flag b) more)

-- A union with the flags of items, one item more. F gives the flags of the items that are left, and
-- each those of one item.
module _ {X : Type 0} (F : List X → List (List ℕ)) where
  pub union_more : (each : X → List (List ℕ)) → ((x : X) (rest : List X) → F (x ∷ rest) ≡ each x ++ F rest)
      → (items : List X) (i : ℕ) (d : X)
      (old new whole : List (List ℕ)) → i < length items → new ≡ flag_union old (each (get_or items i d))
      → flag_union old (F (drop i items)) ≡ whole → flag_union new (F (drop (i + 1) items)) ≡ whole
  union_more each first items i d old new whole below made is =
      let x = get_or items i d in let rest = drop (i + 1) items in
      ap (λ l. flag_union l (F rest)) made ∙ union_append old (each x) (F rest)
      ∙ ap (flag_union old) (sym (at_drop_more F items i d below ∙ first x rest)) ∙ is

  -- if no items are left, the union is whole
  pub union_end : F [] ≡ [] → (items : List X) (n : ℕ) (old whole : List (List ℕ)) → length items ≤ n
      → flag_union old (F (drop n items)) ≡ whole → old ≡ whole
  union_end none items n old whole past is =
      sym (ap (λ l. flag_union old (F l)) (drop_all n items past) ∙ ap (flag_union old) none ∙ union_nil old) ∙ is

pub without_present : (flag : List ℕ) (others : List (List ℕ))
    → has_flag others flag ≡ true → flags_without (flag ∷ []) others ≡ []
unfolding flags_without
without_present flag others h = λ j. cond (not (h j)) (flag ∷ []) []

pub without_absent : (flag : List ℕ) (others : List (List ℕ))
    → has_flag others flag ≡ false → flags_without (flag ∷ []) others ≡ flag ∷ []
unfolding flags_without
without_absent flag others h = λ j. cond (not (h j)) (flag ∷ []) []

pub without_from_none : (others : List (List ℕ)) → flags_without [] others ≡ []
unfolding flags_without
without_from_none others = refl

pub union_from_none : (flags : List (List ℕ)) → flag_union [] flags ≡ distinct flags
unfolding flag_union
union_from_none flags = without_none (distinct flags)

-- NO TWO THE SAME

module _ {X : Type 0} (P : X → Type 0) (p : X → Bool) where
  kept : (xs : List X) → AllByRecursion P xs → AllByRecursion P (filter p xs)
  kept [] all = tt
  kept (x ∷ xs) all = by (p x) (kept xs all.1)
    where
      by : (b : Bool) → AllByRecursion P (filter p xs) → AllByRecursion P (cond b (x ∷ filter p xs) (filter p xs))
      by true rest = (all.0, rest)
      by false rest = rest

-- the rest of a list without repeats has no repeats
pub distinct_without : (a b : List (List ℕ)) → AreDistinct a → AreDistinct (flags_without a b)
unfolding flags_without IsDistinct
distinct_without [] b h = tt
distinct_without (flag ∷ a) b h = by (other b flag) (distinct_without a b h.1)
  where
    by : (s : Bool) → AreDistinct (filter (other b) a) → AreDistinct (cond s (flag ∷ filter (other b) a) (filter (other b) a))
    by true rest = (kept (λ y. same ascii_casemap flag y ≡ false) (other b) a h.0, rest)
    by false rest = rest

-- a list without repeats stays so with one more flag that is the same as none of its flags
distinct-push : (a : List (List ℕ)) (flag : List ℕ) → AreDistinct a → has_flag a flag ≡ false → AreDistinct (a ++ flag ∷ [])
unfolding IsDistinct
distinct-push [] flag h none = (tt, tt)
distinct-push (x ∷ a) flag h none = (last a h.0 differs.0, distinct-push a flag h.1 differs.1)
  where
    or_false : (s t : Bool) → (s || t) ≡ false → (s ≡ false) × (t ≡ false)
    or_false true t e = absurd (true≢false e)
    or_false false t e = (refl, e)

    split : (same ascii_casemap flag x ≡ false) × (has_flag a flag ≡ false)
    split = or_false (same ascii_casemap flag x) (has_flag a flag) none

    differs : (same ascii_casemap x flag ≡ false) × (has_flag a flag ≡ false)
    differs = (same_equiv.symm x flag ∙ split.0, split.1)

    last : (l : List (List ℕ)) → AllByRecursion (λ y. same ascii_casemap x y ≡ false) l → same ascii_casemap x flag ≡ false
        → AllByRecursion (λ y. same ascii_casemap x y ≡ false) (l ++ flag ∷ [])
    last [] all e = (e, tt)
    last (y ∷ l) all e = (all.0, last l all.1 e)

distinct-one : (a : List (List ℕ)) (flag : List ℕ) → AreDistinct a → AreDistinct (flag_union a (flag ∷ []))
unfolding flag_union distinct flags_without
distinct-one a flag h = by (has_flag a flag) refl
  where
    by : (b : Bool) → has_flag a flag ≡ b → AreDistinct (a ++ cond (not b) (flag ∷ []) [])
    by true e = let nil = append-nil a in rw nil h
    by false e = distinct-push a flag h e

-- a union of a list without repeats with any flags has no repeats
pub distinct_union : (a b : List (List ℕ)) → AreDistinct a → AreDistinct (flag_union a b)
distinct_union a [] h = let nil = union_nil a in rw nil h
distinct_union a (flag ∷ b) h =
    let step = sym (union_step a flag b) in
    rw step (distinct_union (flag_union a (flag ∷ [])) b (distinct-one a flag h))

none_distinct : AreDistinct []
unfolding IsDistinct
none_distinct = tt

pub distinct_distinct : (flags : List (List ℕ)) → AreDistinct (distinct flags)
distinct_distinct flags = subst AreDistinct (union_from_none flags) (distinct_union [] flags none_distinct)

-- taking each flag once leaves a list without repeats as it is
pub distinct_stays : (flags : List (List ℕ)) → AreDistinct flags → distinct flags ≡ flags
unfolding distinct flags_without IsDistinct
distinct_stays [] h = refl
distinct_stays (flag ∷ flags) h =
    ap (λ l. flag ∷ flags_without l (flag ∷ [])) (distinct_stays flags h.1) ∙ ap (λ l. flag ∷ l) (all_stay flags h.0)
  where
    all_stay : (l : List (List ℕ)) → AllByRecursion (λ y. same ascii_casemap flag y ≡ false) l → flags_without l (flag ∷ []) ≡ l
    all_stay [] all = refl
    all_stay (y ∷ l) all =
        let e = same_equiv.symm y flag ∙ all.0 in
        let rest = all_stay l all.1 in λ j. cond (not (e j || false)) (y ∷ rest j) (rest j)

pub union_copies : (flags : List (List ℕ)) → AreDistinct flags → flag_union [] flags ≡ flags
union_copies flags h = union_from_none flags ∙ distinct_stays flags h

-- EACH A FLAG

module _ (P : List ℕ → Type 0) where
  all_distinct : (flags : List (List ℕ)) → All P flags → All P (distinct flags)
  unfolding distinct flags_without
  all_distinct [] all = all
  all_distinct (flag ∷ flags) all =
      All-cons P flag (flags_without (distinct flags) (flag ∷ []))
      (All-head P flag flags all)
      (All-filter (other (flag ∷ [])) P (distinct flags) (all_distinct flags (All-tail P flag flags all)))

pub flag_list-distinct : (text : List ℕ) → AreDistinct (flag_list text)
unfolding flag_list
flag_list-distinct text = distinct_distinct (flags_in text)

pub flags_of_texts-distinct : (texts : List (List ℕ)) → AreDistinct (flags_of_texts texts)
unfolding flags_of_texts
flags_of_texts-distinct texts = distinct_distinct (flat_map flags_in texts)

pub flag_list-flags : (text : List ℕ) → All (λ flag. is_flag flag ≡ true) (flag_list text)
unfolding flag_list
flag_list-flags text = all_distinct (λ flag. is_flag flag ≡ true) (flags_in text) (filter_passes is_flag (pieces text))
