-- The values in slots after calls on these slots.
use Rattle.std.proofs.Common.{◌≡◌, ℕ, zero, suc, ◌+◌, ◌-◌, ◌<◌, Bool, true, false, cond, filter, List, [], ◌∷◌, ◌++◌, length, Option, None, Some, is_some, if◌then◌else◌, nat_eq, refl, sym, ap, ◌∙◌, arith, true≢false}
use Rattle.std.specs.List.{IsDistinct, AllByRecursion}
use Rattle.std.specs.Map.{keys_of, lookup, remove_entry, set_value, values_of}
use Rattle.std.specs.Iterator.{MakesProgress, at_most}
use Rattle.std.specs.Prelude.{⊤, IfSome, position, slice_get, slice_set, slice_index_or, swap_remove}
use Rattle.std.proofs.lemmas.List.{length-append, length-set, set-append_left}
use Rattle.std.proofs.lemmas.List.Quantifiers.{position-Some}
use Rattle.std.proofs.lemmas.Option.{slice_get-get_or}
use Rattle.std.proofs.Math.Seq.{take-append_seam}
use Rattle.indexmap.proofs.CallerLemmas.{insert_entry-new}
use Rattle.indexmap.specs.IndexMap.{IndexMap, insert_entry}
use Rattle.indexmap.specs.Layout.{set_value_at}
use lib.Pointwise.{pointwise}
use Rattle.named_list.specs.declared.slot.SlotKey.{SlotKey}
use Rattle.named_list.specs.declared.slot.SlotKey.TheVariants as key
use Rattle.named_list.specs.Slots.{before_others, entries_of, entry_in, gap_left, gaps_of, HaveValues, is_gap, is_name, is_named}

-- the value that is found, where a slot has one
abbrev pub joined : {V : Type 0} → Option (Option V) → Option V
joined None = None
joined (Some value) = value

-- the values in slots of which the first is known
pub entries-first : {V : Type 0} (ss rest : List (SlotKey × Option V)) (k : SlotKey) (v : Option V) → ss ≡ (k, v) ∷ rest → entries_of ss ≡ before_others (entry_in k v) (entries_of rest)
unfolding entries_of
entries-first ss rest k v is = rw is refl

-- the slots are the values and the gaps
pub length-slots : {V : Type 0} (ss : List (SlotKey × Option V)) → HaveValues ss → length ss ≡ length (entries_of ss) + gaps_of ss
unfolding entries_of gaps_of HaveValues
length-slots [] filled = refl
length-slots ((key.Name name, None) ∷ ss) filled = absurd cc
length-slots ((key.Name name, Some value) ∷ ss) filled = let rest = length-slots ss filled.1 in omega (arith, rest)
length-slots ((key.Gap number, value) ∷ ss) filled = let rest = length-slots ss filled.1 in omega (arith, rest)

module _ {V : Type 0} (test : SlotKey → Bool) (by : List ℕ → Bool) (named : (name : List ℕ) → test (key.Name name) ≡ by name) (gap : (number : ℕ) → test (key.Gap number) ≡ false) where
  -- the value that is found by a name
  pub lookup-entries : (ss : List (SlotKey × Option V)) → HaveValues ss → lookup by (entries_of ss) ≡ joined (lookup test ss)
  unfolding entries_of HaveValues
  lookup-entries [] filled = refl
  lookup-entries ((key.Name name, None) ∷ ss) filled = absurd cc
  lookup-entries ((key.Name name, Some value) ∷ ss) filled = rw (named name) (at (by name) (lookup-entries ss filled.1))
    where
      at : (b : Bool) → lookup by (entries_of ss) ≡ joined (lookup test ss) → cond b (Some value) (lookup by (entries_of ss)) ≡ joined (cond b (Some (Some value)) (lookup test ss))
      at true rest = refl
      at false rest = rest
  lookup-entries ((key.Gap number, value) ∷ ss) filled = rw (gap number) (lookup-entries ss filled.1)

  -- a removed slot
  pub remove-entries : (ss : List (SlotKey × Option V)) → HaveValues ss → entries_of (remove_entry test ss) ≡ remove_entry by (entries_of ss)
  unfolding entries_of HaveValues
  remove-entries [] filled = refl
  remove-entries ((key.Name name, None) ∷ ss) filled = absurd cc
  remove-entries ((key.Name name, Some value) ∷ ss) filled = rw (named name) (at (by name) (remove-entries ss filled.1))
    where
      at : (b : Bool) → entries_of (remove_entry test ss) ≡ remove_entry by (entries_of ss) → entries_of (cond b ss ((key.Name name, Some value) ∷ remove_entry test ss)) ≡ cond b (entries_of ss) ((name, value) ∷ remove_entry by (entries_of ss))
      at true rest = refl
      at false rest = ap (λ es. (name, value) ∷ es) rest
  remove-entries ((key.Gap number, value) ∷ ss) filled = rw (gap number) (remove-entries ss filled.1)

  -- a gap that is left
  pub gap_left-entries : (number : ℕ) (ss : List (SlotKey × Option V)) → HaveValues ss → entries_of (gap_left test number ss) ≡ remove_entry by (entries_of ss)
  unfolding entries_of HaveValues
  gap_left-entries number [] filled = refl
  gap_left-entries number ((key.Name name, None) ∷ ss) filled = absurd cc
  gap_left-entries number ((key.Name name, Some value) ∷ ss) filled = rw (named name) (at (by name) (gap_left-entries number ss filled.1))
    where
      at : (b : Bool) → entries_of (gap_left test number ss) ≡ remove_entry by (entries_of ss)
          → entries_of (cond b ((key.Gap number, None) ∷ ss) ((key.Name name, Some value) ∷ gap_left test number ss)) ≡ cond b (entries_of ss) ((name, value) ∷ remove_entry by (entries_of ss))
      at true rest = refl
      at false rest = ap (λ es. (name, value) ∷ es) rest
  gap_left-entries number ((key.Gap other, value) ∷ ss) filled = rw (gap other) (gap_left-entries number ss filled.1)

module _ {V : Type 0} where
  -- the other slots keep their values
  pub remove-filled : (test : SlotKey → Bool) (ss : List (SlotKey × Option V)) → HaveValues ss → HaveValues (remove_entry test ss)
  unfolding HaveValues
  remove-filled test [] filled = tt
  remove-filled test (s ∷ ss) filled = at (test s.0) filled.1 (remove-filled test ss filled.1)
    where
      at : (b : Bool) → HaveValues ss → HaveValues (remove_entry test ss) → HaveValues (cond b ss (s ∷ remove_entry test ss))
      at true old rest = old
      at false old rest = (filled.0, rest)

  pub gap_left-filled : (test : SlotKey → Bool) (number : ℕ) (ss : List (SlotKey × Option V)) → HaveValues ss → HaveValues (gap_left test number ss)
  unfolding HaveValues
  gap_left-filled test number [] filled = tt
  gap_left-filled test number (s ∷ ss) filled = at (test s.0) filled.1 (gap_left-filled test number ss filled.1)
    where
      at : (b : Bool) → HaveValues ss → HaveValues (gap_left test number ss) → HaveValues (cond b ((key.Gap number, None) ∷ ss) (s ∷ gap_left test number ss))
      at true old rest = (tt, old)
      at false old rest = (filled.0, rest)

  -- the gaps stay, where a name goes
  pub remove-gaps : (test : SlotKey → Bool) → ((number : ℕ) → test (key.Gap number) ≡ false) → (ss : List (SlotKey × Option V)) → gaps_of (remove_entry test ss) ≡ gaps_of ss
  unfolding gaps_of
  remove-gaps test gap [] = refl
  remove-gaps test gap ((key.Name name, value) ∷ ss) = at (test (key.Name name)) (remove-gaps test gap ss)
    where
      at : (b : Bool) → gaps_of (remove_entry test ss) ≡ gaps_of ss → gaps_of (cond b ss ((key.Name name, value) ∷ remove_entry test ss)) ≡ gaps_of ss
      at true rest = refl
      at false rest = rest
  remove-gaps test gap ((key.Gap number, value) ∷ ss) = rw (gap number) (ap suc (remove-gaps test gap ss))

  -- one gap more, where it is left in the place of a name that is there
  pub gap_left-gaps : (test : SlotKey → Bool) → ((number : ℕ) → test (key.Gap number) ≡ false) → (number : ℕ) (ss : List (SlotKey × Option V)) → is_some (lookup test ss) ≡ true
      → gaps_of (gap_left test number ss) ≡ suc (gaps_of ss)
  unfolding gaps_of
  gap_left-gaps test gap number [] found = absurd cc
  gap_left-gaps test gap number ((key.Name name, value) ∷ ss) found = at (test (key.Name name)) found (λ f. gap_left-gaps test gap number ss f)
    where
      at : (b : Bool) → is_some (cond b (Some value) (lookup test ss)) ≡ true → (is_some (lookup test ss) ≡ true → gaps_of (gap_left test number ss) ≡ suc (gaps_of ss))
          → gaps_of (cond b ((key.Gap number, None) ∷ ss) ((key.Name name, value) ∷ gap_left test number ss)) ≡ suc (gaps_of ss)
      at true found rest = refl
      at false found rest = rest found
  gap_left-gaps test gap number ((key.Gap other, value) ∷ ss) found = let none = gap other in rw none (ap suc (gap_left-gaps test gap number ss (rw none at found)))

module _ {V : Type 0} (eq : SlotKey → SlotKey → Bool) (same : (a b : List ℕ) → eq (key.Name a) (key.Name b) ≡ pointwise nat_eq a b) (apart : (a : List ℕ) (n : ℕ) → eq (key.Name a) (key.Gap n) ≡ false) where
  -- a value that is put
  pub insert-entries : (name : List ℕ) (value : V) (ss : List (SlotKey × Option V)) → HaveValues ss → entries_of (insert_entry eq ss (key.Name name) (Some value)) ≡ insert_entry (pointwise nat_eq) (entries_of ss) name value
  unfolding entries_of HaveValues
  insert-entries name value [] filled = refl
  insert-entries name value ((key.Name other, None) ∷ ss) filled = absurd cc
  insert-entries name value ((key.Name other, Some old) ∷ ss) filled = rw (same name other) (at (pointwise nat_eq name other) (insert-entries name value ss filled.1))
    where
      at : (b : Bool) → entries_of (insert_entry eq ss (key.Name name) (Some value)) ≡ insert_entry (pointwise nat_eq) (entries_of ss) name value
          → entries_of (if b then (key.Name other, Some value) ∷ ss else (key.Name other, Some old) ∷ insert_entry eq ss (key.Name name) (Some value))
          ≡ (if b then (other, value) ∷ entries_of ss else (other, old) ∷ insert_entry (pointwise nat_eq) (entries_of ss) name value)
      at true rest = refl
      at false rest = ap (λ es. (other, old) ∷ es) rest
  insert-entries name value ((key.Gap number, old) ∷ ss) filled = rw (apart name number) (insert-entries name value ss filled.1)

  pub insert-filled : (name : List ℕ) (value : V) (ss : List (SlotKey × Option V)) → HaveValues ss → HaveValues (insert_entry eq ss (key.Name name) (Some value))
  unfolding HaveValues
  insert-filled name value [] filled = (refl, tt)
  insert-filled name value ((key.Name other, old) ∷ ss) filled = at (eq (key.Name name) (key.Name other)) (insert-filled name value ss filled.1)
    where
      at : (b : Bool) → HaveValues (insert_entry eq ss (key.Name name) (Some value)) → HaveValues (if b then (key.Name other, Some value) ∷ ss else (key.Name other, old) ∷ insert_entry eq ss (key.Name name) (Some value))
      at true rest = (refl, filled.1)
      at false rest = (filled.0, rest)
  insert-filled name value ((key.Gap number, old) ∷ ss) filled = rw (apart name number) (tt, insert-filled name value ss filled.1)

  pub insert-gaps : (name : List ℕ) (value : V) (ss : List (SlotKey × Option V)) → gaps_of (insert_entry eq ss (key.Name name) (Some value)) ≡ gaps_of ss
  unfolding gaps_of
  insert-gaps name value [] = refl
  insert-gaps name value ((key.Name other, old) ∷ ss) = at (eq (key.Name name) (key.Name other)) (insert-gaps name value ss)
    where
      at : (b : Bool) → gaps_of (insert_entry eq ss (key.Name name) (Some value)) ≡ gaps_of ss → gaps_of (if b then (key.Name other, Some value) ∷ ss else (key.Name other, old) ∷ insert_entry eq ss (key.Name name) (Some value)) ≡ gaps_of ss
      at true rest = refl
      at false rest = rest
  insert-gaps name value ((key.Gap number, old) ∷ ss) = rw (apart name number) (ap suc (insert-gaps name value ss))

  -- distinct keys have distinct names
  apart-entries : (name : List ℕ) (ss : List (SlotKey × Option V)) → AllByRecursion (λ k. eq (key.Name name) k ≡ false) (keys_of ss) → AllByRecursion (λ other. pointwise nat_eq name other ≡ false) (keys_of (entries_of ss))
  unfolding entries_of
  apart-entries name [] all = tt
  apart-entries name ((key.Name other, None) ∷ ss) all = apart-entries name ss all.1
  apart-entries name ((key.Name other, Some value) ∷ ss) all = (sym (same name other) ∙ all.0, apart-entries name ss all.1)
  apart-entries name ((key.Gap number, value) ∷ ss) all = apart-entries name ss all.1

  pub distinct-entries : (ss : List (SlotKey × Option V)) → IsDistinct eq (keys_of ss) → IsDistinct (pointwise nat_eq) (keys_of (entries_of ss))
  unfolding entries_of IsDistinct
  distinct-entries [] distinct = tt
  distinct-entries ((key.Name name, None) ∷ ss) distinct = distinct-entries ss distinct.1
  distinct-entries ((key.Name name, Some value) ∷ ss) distinct = (apart-entries name ss distinct.0, distinct-entries ss distinct.1)
  distinct-entries ((key.Gap number, value) ∷ ss) distinct = distinct-entries ss distinct.1

module _ {V : Type 0} where
  -- slots without their gaps keep their values
  pub filter-entries : (ss : List (SlotKey × Option V)) → entries_of (filter (λ s. is_name s.0) ss) ≡ entries_of ss
  unfolding entries_of
  filter-entries [] = refl
  filter-entries ((key.Name name, None) ∷ ss) = filter-entries ss
  filter-entries ((key.Name name, Some value) ∷ ss) = ap (λ es. (name, value) ∷ es) (filter-entries ss)
  filter-entries ((key.Gap number, value) ∷ ss) = filter-entries ss

  pub filter-filled : (ss : List (SlotKey × Option V)) → HaveValues ss → HaveValues (filter (λ s. is_name s.0) ss)
  unfolding HaveValues
  filter-filled [] filled = tt
  filter-filled ((key.Name name, value) ∷ ss) filled = (filled.0, filter-filled ss filled.1)
  filter-filled ((key.Gap number, value) ∷ ss) filled = filter-filled ss filled.1

  pub filter-gaps : (ss : List (SlotKey × Option V)) → gaps_of (filter (λ s. is_name s.0) ss) ≡ 0
  unfolding gaps_of
  filter-gaps [] = refl
  filter-gaps ((key.Name name, value) ∷ ss) = filter-gaps ss
  filter-gaps ((key.Gap number, value) ∷ ss) = filter-gaps ss

-- a gap is left in the first slot whose key passes the test
left_at : {V : Type 0} (test : SlotKey → Bool) (number : ℕ) (ss : List (SlotKey × Option V)) (i : ℕ) (d : SlotKey) → i < length ss → test (slice_index_or (keys_of ss) i d) ≡ true → ((k : ℕ) → k < i → test (slice_index_or (keys_of ss) k d) ≡ false)
    → slice_set ss i (key.Gap number, None) ≡ gap_left test number ss
left_at test number [] i d within here before = absurd (omega (arith, within))
left_at test number (s ∷ ss) zero d within here before = rw here refl
left_at test number (s ∷ ss) (suc i) d within here before = rw (before 0 (omega arith)) (ap (λ l. s ∷ l) (left_at test number ss i d (omega (arith, within)) here (λ k below. before (suc k) (omega (arith, below)))))

pub left_there : {V : Type 0} (test : SlotKey → Bool) (number : ℕ) (ss : List (SlotKey × Option V)) (i : ℕ) → i < length ss → position test (keys_of ss) ≡ Some i → slice_set ss i (key.Gap number, None) ≡ gap_left test number ss
left_there test number ss i within is = let found = position-Some test (keys_of ss) i (key.Gap 0) is in left_at test number ss i (key.Gap 0) within found.1 found.2

get_or_seam : {X : Type 0} (xs : List X) (x d : X) → slice_index_or (xs ++ x ∷ []) (length xs) d ≡ x
get_or_seam [] x d = refl
get_or_seam (y ∷ xs) x d = get_or_seam xs x d

-- the last item in the place of another
pub swapped_last : {X : Type 0} (xs : List X) (i : ℕ) (x d : X) → i < length xs → swap_remove (xs ++ x ∷ []) i d ≡ slice_set xs i x
swapped_last xs i x d within =
    let last : length (xs ++ x ∷ []) - 1 ≡ length xs = omega (arith, length-append xs (x ∷ [])) in
    rw (last, get_or_seam xs x d, set-append_left xs (x ∷ []) i x within) (rw (sym (length-set xs i x)) (take-append_seam (slice_set xs i x) (x ∷ [])))

-- a step of an iterator of values
pub first_goes : {E A : Type 0} (s t : List E) (e : E) (x : A) → s ≡ e ∷ t → MakesProgress (λ (l : List E). ⊤) (λ l. at_most (length l)) s (Some x) t
first_goes s t e x is = record { on = λ finite. (tt, finite, omega (arith, ap length is)); keeps = tt; rests = λ finite. tt }

pub entries-none : {V : Type 0} → entries_of {V = V} [] ≡ []
unfolding entries_of
entries-none = refl

-- an item that is put last, and then in the place of another
pub gap_put : {X : Type 0} (xs ys zs : List X) (x : X) (i : ℕ) (r : Option X) → ys ≡ xs ++ x ∷ [] → i < length xs → r ≡ slice_get ys i → IfSome r (λ p. zs ≡ swap_remove ys i p) → zs ≡ slice_set xs i x
gap_put xs ys zs x i None last within at made = absurd (true≢false (sym (ap is_some (at ∙ slice_get-get_or ys i x (omega (arith, within, ap length last, length-append xs (x ∷ [])))))))
gap_put xs ys zs x i (Some p) last within at made = made ∙ ap (λ l. swap_remove l i p) last ∙ swapped_last xs i x p within

-- a gap's key is found by its number
pub same_gap : (eq : SlotKey → SlotKey → Bool) → ((a b : ℕ) → eq (key.Gap a) (key.Gap b) ≡ nat_eq a b) → ((a : ℕ) (name : List ℕ) → eq (key.Gap a) (key.Name name) ≡ false) → (number : ℕ) (k : SlotKey) → eq (key.Gap number) k ≡ is_gap number k
same_gap eq gaps names number (key.Name name) = names number name
same_gap eq gaps names number (key.Gap other) = gaps number other

pub lookup_alike : {K X : Type 0} (f h : K → Bool) → ((k : K) → f k ≡ h k) → (es : List (K × X)) → lookup f es ≡ lookup h es
lookup_alike f h alike [] = refl
lookup_alike f h alike (e ∷ es) = rw (alike e.0, lookup_alike f h alike es) refl

pub remove_absent : {K X : Type 0} (test : K → Bool) (es : List (K × X)) → is_some (lookup test es) ≡ false → remove_entry test es ≡ es
remove_absent test [] absent = refl
remove_absent test (e ∷ es) absent = at (test e.0) absent (λ a. remove_absent test es a)
  where
    at : (b : Bool) → is_some (cond b (Some e.1) (lookup test es)) ≡ false → (is_some (lookup test es) ≡ false → remove_entry test es ≡ es) → cond b es (e ∷ remove_entry test es) ≡ e ∷ es
    at true absent rest = absurd cc
    at false absent rest = ap (λ l. e ∷ l) (rest absent)

-- a new gap is put last
pub put_last : {V S : Type 0} (eq : SlotKey → SlotKey → Bool) → ((a b : ℕ) → eq (key.Gap a) (key.Gap b) ≡ nat_eq a b) → ((a : ℕ) (name : List ℕ) → eq (key.Gap a) (key.Name name) ≡ false) → (m : IndexMap SlotKey (Option V) S) (number : ℕ) (new : List (SlotKey × Option V))
    → new ≡ insert_entry eq m.entries (key.Gap number) None → lookup (is_gap number) m.entries ≡ None → new ≡ m.entries ++ (key.Gap number, None) ∷ []
put_last eq gaps names m number new put none = put ∙ insert_entry-new eq m (key.Gap number) None (lookup_alike (eq (key.Gap number)) (is_gap number) (same_gap eq gaps names number) m.entries ∙ none)

-- A VALUE THAT IS WRITTEN

module _ {V : Type 0} where
  pub set-filled : (ss : List (SlotKey × Option V)) (i : ℕ) (w : V) → HaveValues ss → HaveValues (set_value_at ss i (Some w))
  unfolding HaveValues
  set-filled [] i w filled = tt
  set-filled ((key.Name name, value) ∷ ss) zero w filled = (refl, filled.1)
  set-filled ((key.Gap number, value) ∷ ss) zero w filled = (tt, filled.1)
  set-filled (s ∷ ss) (suc i) w filled = (filled.0, set-filled ss i w filled.1)

  pub set-gaps : (ss : List (SlotKey × Option V)) (i : ℕ) (w : Option V) → gaps_of (set_value_at ss i w) ≡ gaps_of ss
  unfolding gaps_of
  set-gaps [] i w = refl
  set-gaps (s ∷ ss) zero w = refl
  set-gaps (s ∷ ss) (suc i) w = ap (λ n. cond (is_name s.0) n (suc n)) (set-gaps ss i w)

  -- the value that was there
  pub set-same : (ss : List (SlotKey × Option V)) (i : ℕ) (w : Option V) → slice_get (values_of ss) i ≡ Some w → set_value_at ss i w ≡ ss
  set-same [] i w at = refl
  set-same (s ∷ ss) zero w at = let same : s.1 ≡ w = cc in ap (λ x. (s.0, x) ∷ ss) (sym same)
  set-same (s ∷ ss) (suc i) w at = ap (λ l. s ∷ l) (set-same ss i w at)

  -- by a name
  set-at : (name : List ℕ) (ss : List (SlotKey × Option V)) (i : ℕ) (w : V) (d : SlotKey) → HaveValues ss → i < length ss → is_named name (slice_index_or (keys_of ss) i d) ≡ true → ((k : ℕ) → k < i → is_named name (slice_index_or (keys_of ss) k d) ≡ false)
      → entries_of (set_value_at ss i (Some w)) ≡ set_value (pointwise nat_eq name) (entries_of ss) w
  unfolding entries_of HaveValues
  set-at name [] i w d filled within here before = refl
  set-at name ((key.Name other, None) ∷ ss) i w d filled within here before = absurd cc
  set-at name ((key.Name other, Some value) ∷ ss) zero w d filled within here before = rw here refl
  set-at name ((key.Gap number, value) ∷ ss) zero w d filled within here before = absurd cc
  set-at name ((key.Name other, Some value) ∷ ss) (suc i) w d filled within here before =
      rw (before 0 (omega arith)) (ap (λ l. (other, value) ∷ l) (set-at name ss i w d filled.1 (omega (arith, within)) here (λ k below. before (suc k) (omega (arith, below)))))
  set-at name ((key.Gap number, value) ∷ ss) (suc i) w d filled within here before = set-at name ss i w d filled.1 (omega (arith, within)) here (λ k below. before (suc k) (omega (arith, below)))

  pub set-named : (name : List ℕ) (ss : List (SlotKey × Option V)) (i : ℕ) (w : V) → HaveValues ss → i < length ss → position (is_named name) (keys_of ss) ≡ Some i
      → entries_of (set_value_at ss i (Some w)) ≡ set_value (pointwise nat_eq name) (entries_of ss) w
  set-named name ss i w filled within is = let found = position-Some (is_named name) (keys_of ss) i (key.Gap 0) is in set-at name ss i w (key.Gap 0) filled within found.1 found.2

  -- by a place, where there are no gaps
  pub set-place : (ss : List (SlotKey × Option V)) (i : ℕ) (w : V) → HaveValues ss → gaps_of ss ≡ 0 → entries_of (set_value_at ss i (Some w)) ≡ set_value_at (entries_of ss) i w
  unfolding entries_of HaveValues gaps_of
  set-place [] i w filled none = refl
  set-place ((key.Name name, None) ∷ ss) i w filled none = absurd cc
  set-place ((key.Name name, Some value) ∷ ss) zero w filled none = refl
  set-place ((key.Name name, Some value) ∷ ss) (suc i) w filled none = ap (λ l. (name, value) ∷ l) (set-place ss i w filled.1 none)
  set-place ((key.Gap number, value) ∷ ss) i w filled none = absurd (omega (arith, none))

  pub get-place : (ss : List (SlotKey × Option V)) (i : ℕ) → HaveValues ss → gaps_of ss ≡ 0 → slice_get (values_of (entries_of ss)) i ≡ joined (slice_get (values_of ss) i)
  unfolding entries_of HaveValues gaps_of
  get-place [] i filled none = refl
  get-place ((key.Name name, None) ∷ ss) i filled none = absurd cc
  get-place ((key.Name name, Some value) ∷ ss) zero filled none = refl
  get-place ((key.Name name, Some value) ∷ ss) (suc i) filled none = get-place ss i filled.1 none
  get-place ((key.Gap number, value) ∷ ss) i filled none = absurd (omega (arith, none))

pub lookup_none : {K X : Type 0} (test : K → Bool) (es : List (K × X)) → is_some (lookup test es) ≡ false → lookup test es ≡ None
lookup_none test es absent = at (lookup test es) absent
  where
    at : {X : Type 0} (found : Option X) → is_some found ≡ false → found ≡ None
    at None absent = refl
    at (Some x) absent = absurd cc
