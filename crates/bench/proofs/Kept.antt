-- Edits keep a content in order.
use Rattle.std.proofs.Common.{◌≡◌, ℕ, suc, ◌≤◌, Bool, true, false, cond, if◌then◌else◌, List, [], ◌∷◌, length, Option, None, Some, is_none, Result, Ok, Err, nat_eq, refl, sym, ap, subst, ◌∙◌, arith}
use Rattle.std.proofs.lemmas.Cmp.{on_total, then_total, nat_list_cmp_total, nat_list_eq_equiv}
use Rattle.std.specs.BTreeMap as tree
use Rattle.std.specs.Cmp.{IsTotalOrder}
use Rattle.std.specs.List.{AllByRecursion, IsDistinct}
use Rattle.std.specs.List.Sorted.{IsStrictlySortedBy}
use Rattle.std.specs.Map.{keys_of, values_of, lookup, remove_entry}
use Rattle.indexmap.specs.IndexMap as ordered
use Rattle.std.specs.Ordering.{is_eq, match_ordering, ordering_reverse}
use Rattle.std.specs.declared.cmp.Ordering.{Ordering}
use Rattle.std.specs.declared.cmp.Ordering.TheVariants.{Less, Equal, Greater}
use lib.Pointwise.{pointwise}
use Rattle.script_names.specs.declared.location.Location.{Location}
use Rattle.script_names.specs.declared.location.Location.TheVariants.{Personal, Global}
use Rattle.script_names.specs.Name.{name_cmp, location_cmp}
use Rattle.script_names.specs.declared.name.ScriptName.{ScriptName}
use Rattle.bench.specs.Content.{Content, Edit, Sample, after, new_content, put_script, put_message, rename_script, remove_script, remove_message, unless, text_at, message_at, put_over, with_script, changed, with_renamed, set_for_all, set_for_one, sample_with}
use Rattle.bench.specs.Edits.{IsInOrder, AreOrdered, AreDistinctIds, made_or_old, content_after}
use Rattle.sieve_profile.specs.Profile.{Profile}
use Rattle.bench.specs.declared.fault.EditFault.{EditFault}

-- THE ORDER OF NAMES

location_antisymm : (a b : Location) → location_cmp a b ≡ ordering_reverse (location_cmp b a)
location_antisymm Personal Personal = refl
location_antisymm Personal Global = refl
location_antisymm Global Personal = refl
location_antisymm Global Global = refl

location_trans : (a b c : Location) → location_cmp a b ≡ Less → location_cmp b c ≡ Less → location_cmp a c ≡ Less
location_trans Personal Personal c below above = absurd cc
location_trans Personal Global Personal below above = absurd cc
location_trans Personal Global Global below above = refl
location_trans Global Personal c below above = absurd cc
location_trans Global Global c below above = absurd cc

location_congr : (a b c : Location) → location_cmp a b ≡ Equal → location_cmp a c ≡ location_cmp b c
location_congr Personal Personal c is = refl
location_congr Personal Global c is = absurd cc
location_congr Global Personal c is = absurd cc
location_congr Global Global c is = refl

pub name_total : IsTotalOrder name_cmp
name_total =
    then_total (on_total (λ (name : ScriptName). name.location) (record { antisymm = location_antisymm; trans = location_trans; congr = location_congr })) (on_total (λ (name : ScriptName). name.name) nat_list_cmp_total)

-- KEYS IN ORDER

module _ {K : Type 0} {cmp : K → K → Ordering} (total : IsTotalOrder cmp) where
  pub above : (a b : K) → cmp a b ≡ Less → cmp b a ≡ Greater
  above a b is = total.antisymm b a ∙ ap ordering_reverse is

  below : (a b : K) → cmp a b ≡ Greater → cmp b a ≡ Less
  below a b is = total.antisymm b a ∙ ap ordering_reverse is

  -- a key that is below another is below those that the other is below
  all_above : (a b : K) (ks : List K) → cmp a b ≡ Less → AllByRecursion (λ y. cmp b y ≡ Less) ks → AllByRecursion (λ y. cmp a y ≡ Less) ks
  all_above a b [] is all = tt
  all_above a b (k ∷ ks) is all = (total.trans a b k is all.0, all_above a b ks is all.1)

  module _ {X : Type 0} (k : K) (v : X) where
    all_inserted : (P : K → Type 0) (es : List (K × X)) → AllByRecursion P (keys_of es) → P k → AllByRecursion P (keys_of (tree.insert_entry cmp es k v))
    all_inserted P [] all here = (here, tt)
    all_inserted P (e ∷ es) all here = by (cmp k e.0) (all_inserted P es all.1 here)
      where
        by : (r : Ordering) → AllByRecursion P (keys_of (tree.insert_entry cmp es k v)) → AllByRecursion P (keys_of (match_ordering r ((k, v) ∷ e ∷ es) ((e.0, v) ∷ es) (e ∷ tree.insert_entry cmp es k v)))
        by Less rest = (here, all)
        by Equal rest = all
        by Greater rest = (all.0, rest)

    -- entries in the order of their keys stay in that order where one is inserted
    sorted_inserted : (es : List (K × X)) → IsStrictlySortedBy cmp (keys_of es) → IsStrictlySortedBy cmp (keys_of (tree.insert_entry cmp es k v))
    unfolding IsStrictlySortedBy
    sorted_inserted [] sorted = (tt, tt)
    sorted_inserted (e ∷ es) sorted = by (cmp k e.0) refl (sorted_inserted es sorted.1)
      where
        by : (r : Ordering) → cmp k e.0 ≡ r → IsStrictlySortedBy cmp (keys_of (tree.insert_entry cmp es k v)) → IsStrictlySortedBy cmp (keys_of (match_ordering r ((k, v) ∷ e ∷ es) ((e.0, v) ∷ es) (e ∷ tree.insert_entry cmp es k v)))
        by Less is rest = ((is, all_above k e.0 (keys_of es) is sorted.0), sorted)
        by Equal is rest = sorted
        by Greater is rest = (all_inserted (λ y. cmp e.0 y ≡ Less) es sorted.0 (below k e.0 is), rest)

    -- an entry that is inserted makes one entry more at most
    pub one_inserted : (es : List (K × X)) → length (tree.insert_entry cmp es k v) ≤ suc (length es)
    one_inserted [] = omega arith
    one_inserted (e ∷ es) = by (cmp k e.0) (one_inserted es)
      where
        by : (r : Ordering) → length (tree.insert_entry cmp es k v) ≤ suc (length es) → length (match_ordering r ((k, v) ∷ e ∷ es) ((e.0, v) ∷ es) (e ∷ tree.insert_entry cmp es k v)) ≤ suc (suc (length es))
        by Less rest = omega arith
        by Equal rest = omega arith
        by Greater rest = omega arith

    -- a key that is below all has no entry
    absent_below : (es : List (K × X)) → AllByRecursion (λ y. cmp k y ≡ Less) (keys_of es) → lookup (tree.is_at (cmp k)) es ≡ None
    absent_below [] all = refl
    absent_below (e ∷ es) all = ap (λ r. cond (is_eq r) (Some e.1) (lookup (tree.is_at (cmp k)) es)) all.0 ∙ absent_below es all.1

    -- an entry that is inserted makes no entry more where there is one at its key
    pub none_inserted : (es : List (K × X)) → IsStrictlySortedBy cmp (keys_of es) → is_none (lookup (tree.is_at (cmp k)) es) ≡ false → length (tree.insert_entry cmp es k v) ≡ length es
    unfolding IsStrictlySortedBy
    none_inserted [] sorted there = absurd cc
    none_inserted (e ∷ es) sorted there = by (cmp k e.0) refl there (none_inserted es sorted.1)
      where
        by : (r : Ordering) → cmp k e.0 ≡ r → is_none (cond (is_eq r) (Some e.1) (lookup (tree.is_at (cmp k)) es)) ≡ false
            → (is_none (lookup (tree.is_at (cmp k)) es) ≡ false → length (tree.insert_entry cmp es k v) ≡ length es)
            → length (match_ordering r ((k, v) ∷ e ∷ es) ((e.0, v) ∷ es) (e ∷ tree.insert_entry cmp es k v)) ≡ suc (length es)
        by Less is found rest = let e : is_none (lookup (tree.is_at (cmp k)) es) ≡ true = ap is_none (absent_below es (all_above k e.0 (keys_of es) is sorted.0)) in absurd cc
        by Equal is found rest = refl
        by Greater is found rest = ap suc (rest found)

-- ENTRIES THAT ARE REMOVED

module _ {K X : Type 0} (test : K → Bool) where
  all_removed : (P : K → Type 0) (es : List (K × X)) → AllByRecursion P (keys_of es) → AllByRecursion P (keys_of (remove_entry test es))
  all_removed P [] all = tt
  all_removed P (e ∷ es) all = by (test e.0) (all_removed P es all.1)
    where
      by : (b : Bool) → AllByRecursion P (keys_of (remove_entry test es)) → AllByRecursion P (keys_of (cond b es (e ∷ remove_entry test es)))
      by true rest = all.1
      by false rest = (all.0, rest)

  sorted_removed : (cmp : K → K → Ordering) (es : List (K × X)) → IsStrictlySortedBy cmp (keys_of es) → IsStrictlySortedBy cmp (keys_of (remove_entry test es))
  unfolding IsStrictlySortedBy
  sorted_removed cmp [] sorted = tt
  sorted_removed cmp (e ∷ es) sorted = by (test e.0) (sorted_removed cmp es sorted.1)
    where
      by : (b : Bool) → IsStrictlySortedBy cmp (keys_of (remove_entry test es)) → IsStrictlySortedBy cmp (keys_of (cond b es (e ∷ remove_entry test es)))
      by true rest = sorted.1
      by false rest = (all_removed (λ y. cmp e.0 y ≡ Less) es sorted.0, rest)

  distinct_removed : (eq : K → K → Bool) (es : List (K × X)) → IsDistinct eq (keys_of es) → IsDistinct eq (keys_of (remove_entry test es))
  unfolding IsDistinct
  distinct_removed eq [] distinct = tt
  distinct_removed eq (e ∷ es) distinct = by (test e.0) (distinct_removed eq es distinct.1)
    where
      by : (b : Bool) → IsDistinct eq (keys_of (remove_entry test es)) → IsDistinct eq (keys_of (cond b es (e ∷ remove_entry test es)))
      by true rest = distinct.1
      by false rest = (all_removed (λ y. eq e.0 y ≡ false) es distinct.0, rest)

  -- there is one entry less where one is removed that is there
  pub one_removed : (es : List (K × X)) → is_none (lookup test es) ≡ false → suc (length (remove_entry test es)) ≡ length es
  one_removed [] there = absurd cc
  one_removed (e ∷ es) there = by (test e.0) there (one_removed es)
    where
      by : (b : Bool) → is_none (cond b (Some e.1) (lookup test es)) ≡ false → (is_none (lookup test es) ≡ false → suc (length (remove_entry test es)) ≡ length es) → suc (length (cond b es (e ∷ remove_entry test es))) ≡ suc (length es)
      by true found rest = refl
      by false found rest = ap suc (rest found)

  -- there are never more entries after a removal
  pub none_more : (es : List (K × X)) → length (remove_entry test es) ≤ length es
  none_more [] = omega arith
  none_more (e ∷ es) = by (test e.0) (none_more es)
    where
      by : (b : Bool) → length (remove_entry test es) ≤ length es → length (cond b es (e ∷ remove_entry test es)) ≤ suc (length es)
      by true rest = omega arith
      by false rest = omega arith

-- ENTRIES THAT ARE PUT LAST

module _ (id : List ℕ) (sample : Sample) where
  -- the messages with one that is put at the id
  abbrev put : List (List ℕ × Sample) → List (List ℕ × Sample)
  put messages = ordered.insert_entry (pointwise nat_eq) messages id sample

  pub all_put : (P : List ℕ → Type 0) (es : List (List ℕ × Sample)) → AllByRecursion P (keys_of es) → P id → AllByRecursion P (keys_of (put es))
  all_put P [] all here = (here, tt)
  all_put P (e ∷ es) all here = by (pointwise nat_eq id e.0) (all_put P es all.1 here)
    where
      by : (b : Bool) → AllByRecursion P (keys_of (put es)) → AllByRecursion P (keys_of (if b then (e.0, sample) ∷ es else e ∷ put es))
      by true rest = all
      by false rest = (all.0, rest)

  pub all_values_put : (P : Sample → Type 0) (es : List (List ℕ × Sample)) → AllByRecursion P (values_of es) → P sample → AllByRecursion P (values_of (put es))
  all_values_put P [] all here = (here, tt)
  all_values_put P (e ∷ es) all here = by (pointwise nat_eq id e.0) (all_values_put P es all.1 here)
    where
      by : (b : Bool) → AllByRecursion P (values_of (put es)) → AllByRecursion P (values_of (if b then (e.0, sample) ∷ es else e ∷ put es))
      by true rest = (here, all.1)
      by false rest = (all.0, rest)

  distinct_put : (es : List (List ℕ × Sample)) → AreDistinctIds (keys_of es) → AreDistinctIds (keys_of (put es))
  unfolding IsDistinct
  distinct_put [] distinct = (tt, tt)
  distinct_put (e ∷ es) distinct = by (pointwise nat_eq id e.0) refl (distinct_put es distinct.1)
    where
      by : (b : Bool) → pointwise nat_eq id e.0 ≡ b → AreDistinctIds (keys_of (put es)) → AreDistinctIds (keys_of (if b then (e.0, sample) ∷ es else e ∷ put es))
      by true is rest = distinct
      by false is rest = (all_put (λ y. pointwise nat_eq e.0 y ≡ false) es distinct.0 (nat_list_eq_equiv.symm e.0 id ∙ is), rest)

  pub one_put : (es : List (List ℕ × Sample)) → length (put es) ≤ suc (length es)
  one_put [] = omega arith
  one_put (e ∷ es) = by (pointwise nat_eq id e.0) (one_put es)
    where
      by : (b : Bool) → length (put es) ≤ suc (length es) → length (if b then (e.0, sample) ∷ es else e ∷ put es) ≤ suc (suc (length es))
      by true rest = omega arith
      by false rest = omega arith

  pub none_put : (es : List (List ℕ × Sample)) → is_none (message_at es id) ≡ false → length (put es) ≡ length es
  none_put [] there = absurd cc
  none_put (e ∷ es) there = by (pointwise nat_eq id e.0) there (none_put es)
    where
      by : (b : Bool) → is_none (cond b (Some e.1) (message_at es id)) ≡ false → (is_none (message_at es id) ≡ false → length (put es) ≡ length es) → length (if b then (e.0, sample) ∷ es else e ∷ put es) ≡ suc (length es)
      by true found rest = refl
      by false found rest = ap suc (rest found)

-- ONE THAT IS CHANGED

module _ {X : Type 0} (id : List ℕ) (change : X → X) where
  pub keys_changed : (es : List (List ℕ × X)) → keys_of (changed id change es) ≡ keys_of es
  keys_changed [] = refl
  keys_changed (e ∷ es) = by (pointwise nat_eq id e.0) (keys_changed es)
    where
      by : (b : Bool) → keys_of (changed id change es) ≡ keys_of es → keys_of (if b then (e.0, change e.1) ∷ es else e ∷ changed id change es) ≡ e.0 ∷ keys_of es
      by true rest = refl
      by false rest = ap (λ l. e.0 ∷ l) rest

  pub length_changed : (es : List (List ℕ × X)) → length (changed id change es) ≡ length es
  length_changed [] = refl
  length_changed (e ∷ es) = by (pointwise nat_eq id e.0) (length_changed es)
    where
      by : (b : Bool) → length (changed id change es) ≡ length es → length (if b then (e.0, change e.1) ∷ es else e ∷ changed id change es) ≡ suc (length es)
      by true rest = refl
      by false rest = ap suc rest

  -- a fact of each that stays with one that is changed is a fact of all then
  pub all_changed : (P : X → Type 0) (es : List (List ℕ × X)) → ((x : X) → P x → P (change x)) → AllByRecursion P (values_of es) → AllByRecursion P (values_of (changed id change es))
  all_changed P [] stays all = tt
  all_changed P (e ∷ es) stays all = by (pointwise nat_eq id e.0) (all_changed P es stays all.1)
    where
      by : (b : Bool) → AllByRecursion P (values_of (changed id change es)) → AllByRecursion P (values_of (if b then (e.0, change e.1) ∷ es else e ∷ changed id change es))
      by true rest = (stays e.1 all.0, all.1)
      by false rest = (all.0, rest)

  pub distinct_changed : (es : List (List ℕ × X)) → AreDistinctIds (keys_of es) → AreDistinctIds (keys_of (changed id change es))
  distinct_changed es distinct = subst AreDistinctIds (sym (keys_changed es)) distinct

-- EDITS THAT ARE MADE

-- where an edit made a content, it has no refusal, and it made the content that it was to make
pub accepted : (refusal : Option EditFault) (content new : Content) → unless refusal content ≡ Ok new → (refusal ≡ None) × (content ≡ new)
accepted None content new made = (refl, cc)
accepted (Some fault) content new made = absurd cc

-- an edit keeps the order
pub order_kept : (content : Content) (edit : Edit) (new : Content) → IsInOrder content → after content edit ≡ Ok new → IsInOrder new
order_kept content (put_script name text) new order made =
    subst IsInOrder (accepted _ _ new made).1 (record { scripts = sorted_inserted name_total name text content.scripts order.scripts; ids = order.ids })
order_kept content (put_message id bytes) new order made =
    subst IsInOrder (accepted _ _ new made).1 (record { scripts = order.scripts; ids = distinct_put id (put_over bytes (message_at content.messages id)) content.messages order.ids })
order_kept content (rename_script from to) new order made =
    subst IsInOrder (accepted _ _ new made).1 (record { scripts = by (text_at content.scripts from); ids = order.ids })
  where
    by : (text : Option (List ℕ)) → AreOrdered (with_renamed from text to content.scripts)
    by None = order.scripts
    by (Some text) = sorted_removed (tree.is_at (name_cmp from)) name_cmp (with_script to text content.scripts) (sorted_inserted name_total to text content.scripts order.scripts)
order_kept content (remove_script name) new order made =
    subst IsInOrder (accepted _ _ new made).1 (record { scripts = sorted_removed (tree.is_at (name_cmp name)) name_cmp content.scripts order.scripts; ids = order.ids })
order_kept content (remove_message id) new order made =
    subst IsInOrder (accepted _ _ new made).1 (record { scripts = order.scripts; ids = distinct_removed (pointwise nat_eq id) (pointwise nat_eq) content.messages order.ids })
order_kept content (set_for_all setting) new order made =
    subst IsInOrder (accepted _ _ new made).1 (record { scripts = order.scripts; ids = order.ids })
order_kept content (set_for_one id setting) new order made =
    subst IsInOrder (accepted _ _ new made).1 (record { scripts = order.scripts; ids = distinct_changed id (sample_with setting) content.messages order.ids })

-- EDITS IN TURN

-- an edit that may be refused keeps the order
pub order_stays : (content : Content) (edit : Edit) → IsInOrder content → IsInOrder (made_or_old content (after content edit))
order_stays content edit order = by (after content edit) refl
  where
    by : (made : Result Content EditFault) → after content edit ≡ made → IsInOrder (made_or_old content made)
    by (Ok new) is = order_kept content edit new order is
    by (Err fault) is = order

pub stays_in_order : (content : Content) (edits : List Edit) → IsInOrder content → IsInOrder (content_after content edits)
unfolding content_after
stays_in_order content [] order = order
stays_in_order content (edit ∷ edits) order = stays_in_order (made_or_old content (after content edit)) edits (order_stays content edit order)

-- THE PROFILE

-- an edit keeps the profile
pub profile_kept : (content : Content) (edit : Edit) (new : Content) → after content edit ≡ Ok new → new.profile ≡ content.profile
profile_kept content (put_script name text) new made = sym (ap (λ (c : Content). c.profile) (accepted _ _ new made).1)
profile_kept content (put_message id bytes) new made = sym (ap (λ (c : Content). c.profile) (accepted _ _ new made).1)
profile_kept content (rename_script from to) new made = sym (ap (λ (c : Content). c.profile) (accepted _ _ new made).1)
profile_kept content (remove_script name) new made = sym (ap (λ (c : Content). c.profile) (accepted _ _ new made).1)
profile_kept content (remove_message id) new made = sym (ap (λ (c : Content). c.profile) (accepted _ _ new made).1)
profile_kept content (set_for_all setting) new made = sym (ap (λ (c : Content). c.profile) (accepted _ _ new made).1)
profile_kept content (set_for_one id setting) new made = sym (ap (λ (c : Content). c.profile) (accepted _ _ new made).1)

profile_after : (content : Content) (edit : Edit) → (made_or_old content (after content edit)).profile ≡ content.profile
profile_after content edit = by (after content edit) refl
  where
    by : (made : Result Content EditFault) → after content edit ≡ made → (made_or_old content made).profile ≡ content.profile
    by (Ok new) is = profile_kept content edit new is
    by (Err fault) is = refl

pub profile_stays : (content : Content) (edits : List Edit) → (content_after content edits).profile ≡ content.profile
unfolding content_after
profile_stays content [] = refl
profile_stays content (edit ∷ edits) = profile_stays (made_or_old content (after content edit)) edits ∙ profile_after content edit

-- A NEW BENCH

pub new_in_order : (profile : Profile) → IsInOrder (new_content profile)
unfolding IsStrictlySortedBy IsDistinct
new_in_order profile = record { scripts = tt; ids = tt }
