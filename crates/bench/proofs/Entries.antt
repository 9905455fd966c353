-- Each edit of a bench's entries is the same edit of their messages.
use Rattle.std.proofs.Common.{◌≡◌, ℕ, zero, suc, List, [], ◌∷◌, length, map, slice_get, Bool, true, false, Option, Some, None, is_some, cond, if◌then◌else◌, MatchOption, nat_eq, refl, sym, ap, ◌∙◌}
use Rattle.std.proofs.lemmas.List.{length-map}
use Rattle.std.proofs.lemmas.Map.Made.{lookup-map_values}
use Rattle.std.specs.Map.{lookup, remove_entry, set_value, values_of}
use Rattle.std.specs.Option.{option_map}
use lib.Pointwise.{pointwise}
use Rattle.indexmap.specs.IndexMap as ordered
use Rattle.indexmap.specs.Layout.{set_value_at}
use Rattle.bench.specs.Content.{Sample, changed, put_over, with_message, sample_with}
use Rattle.bench.specs.declared.entry.MessageEntry.{MessageEntry}
use Rattle.bench.specs.declared.setting.MessageSetting.{MessageSetting}
use Rattle.bench.specs.declared.setting.MessageSetting.TheVariants as own
use Rattle.bench.specs.view.Entry.{fresh_entry, messages_of, put_entry, renewed, sample_in, sample_of, entry_with}

-- there are as many messages as entries
pub length-messages : (es : List (List ℕ × MessageEntry)) → length (messages_of es) ≡ length es
unfolding messages_of
length-messages es = length-map es _

-- the message of an id is that of its entry
pub lookup-messages : (test : List ℕ → Bool) (es : List (List ℕ × MessageEntry)) → lookup test (messages_of es) ≡ option_map sample_of (lookup test es)
unfolding messages_of
lookup-messages test es = lookup-map_values _ test es

-- there is a message whose id passes a test where there is an entry whose id does
pub is_some-messages : (test : List ℕ → Bool) (es : List (List ℕ × MessageEntry)) → is_some (lookup test (messages_of es)) ≡ is_some (lookup test es)
is_some-messages test es = ap is_some (lookup-messages test es) ∙ by (lookup test es)
  where
    by : (found : Option MessageEntry) → is_some (option_map sample_of found) ≡ is_some found
    by None = refl
    by (Some entry) = refl

-- an entry is put where its message is
pub messages-insert : (eq : List ℕ → List ℕ → Bool) (es : List (List ℕ × MessageEntry)) (id : List ℕ) (entry : MessageEntry)
    → messages_of (ordered.insert_entry eq es id entry) ≡ ordered.insert_entry eq (messages_of es) id (sample_of entry)
unfolding messages_of
messages-insert eq [] id entry = refl
messages-insert eq ((other, old) ∷ es) id entry = by (eq id other) (messages-insert eq es id entry)
  where
    by : (b : Bool) → messages_of (ordered.insert_entry eq es id entry) ≡ ordered.insert_entry eq (messages_of es) id (sample_of entry)
        → messages_of (if b then (other, entry) ∷ es else (other, old) ∷ ordered.insert_entry eq es id entry)
        ≡ (if b then (other, sample_of entry) ∷ messages_of es else (other, sample_of old) ∷ ordered.insert_entry eq (messages_of es) id (sample_of entry))
    by true rest = refl
    by false rest = ap (λ l. (other, sample_of old) ∷ l) rest

-- an entry is removed as its message is, by a test of its id
pub messages-remove_entry : (test : List ℕ → Bool) (es : List (List ℕ × MessageEntry)) → messages_of (remove_entry test es) ≡ remove_entry test (messages_of es)
unfolding messages_of
messages-remove_entry test [] = refl
messages-remove_entry test ((id, entry) ∷ es) = by (test id) (messages-remove_entry test es)
  where
    by : (b : Bool) → messages_of (remove_entry test es) ≡ remove_entry test (messages_of es)
        → messages_of (cond b es ((id, entry) ∷ remove_entry test es)) ≡ cond b (messages_of es) ((id, sample_of entry) ∷ remove_entry test (messages_of es))
    by true rest = refl
    by false rest = ap (λ l. (id, sample_of entry) ∷ l) rest

-- AN ENTRY THAT IS CHANGED

-- the entry that is put is the message that a put makes of the one there
pub messages-put : (es : List (List ℕ × MessageEntry)) (id bytes : List ℕ) → messages_of (put_entry id bytes es) ≡ with_message id bytes (messages_of es)
messages-put es id bytes =
    messages-insert (pointwise nat_eq) es id (fresh_entry (put_over bytes (sample_in es id)))
    ∙ ap (λ found. ordered.insert_entry (pointwise nat_eq) (messages_of es) id (put_over bytes found)) (sym (lookup-messages (pointwise nat_eq id) es))

-- to put an entry at an id that has one is to change that one in its place
renewed_is : (es : List (List ℕ × MessageEntry)) (id bytes : List ℕ) (entry : MessageEntry) → lookup (pointwise nat_eq id) es ≡ Some entry
    → changed id (renewed bytes) es ≡ ordered.insert_entry (pointwise nat_eq) es id (fresh_entry (put_over bytes (Some (sample_of entry))))
renewed_is [] id bytes entry there = absurd cc
renewed_is (e ∷ es) id bytes entry there = by (pointwise nat_eq id e.0) there (λ h. renewed_is es id bytes entry h)
  where
    over : MessageEntry → MessageEntry
    over old = fresh_entry (put_over bytes (Some (sample_of old)))

    by : (b : Bool) → cond b (Some e.1) (lookup (pointwise nat_eq id) es) ≡ Some entry → (lookup (pointwise nat_eq id) es ≡ Some entry → changed id (renewed bytes) es ≡ ordered.insert_entry (pointwise nat_eq) es id (over entry))
        → (if b then (e.0, renewed bytes e.1) ∷ es else e ∷ changed id (renewed bytes) es) ≡ (if b then (e.0, over entry) ∷ es else e ∷ ordered.insert_entry (pointwise nat_eq) es id (over entry))
    by true there rest = let same : e.1 ≡ entry = cc in ap (λ (x : MessageEntry). (e.0, over x) ∷ es) same
    by false there rest = ap (λ l. e ∷ l) (rest there)

pub put_there : (es : List (List ℕ × MessageEntry)) (id bytes : List ℕ) → is_some (lookup (pointwise nat_eq id) es) ≡ true → changed id (renewed bytes) es ≡ put_entry id bytes es
put_there es id bytes there = by (lookup (pointwise nat_eq id) es) refl there
  where
    by : (found : Option MessageEntry) → lookup (pointwise nat_eq id) es ≡ found → is_some found ≡ true → changed id (renewed bytes) es ≡ ordered.insert_entry (pointwise nat_eq) es id (fresh_entry (put_over bytes (option_map sample_of found)))
    by None is there = absurd cc
    by (Some entry) is there = renewed_is es id bytes entry is

-- to change an entry is to change its message
messages-changed : (id : List ℕ) (change : MessageEntry → MessageEntry) (to : Sample → Sample) → ((entry : MessageEntry) → sample_of (change entry) ≡ to (sample_of entry)) → (es : List (List ℕ × MessageEntry))
    → messages_of (changed id change es) ≡ changed id to (messages_of es)
unfolding messages_of
messages-changed id change to alike [] = refl
messages-changed id change to alike (e ∷ es) = by (pointwise nat_eq id e.0) (messages-changed id change to alike es)
  where
    by : (b : Bool) → messages_of (changed id change es) ≡ changed id to (messages_of es)
        → messages_of (if b then (e.0, change e.1) ∷ es else e ∷ changed id change es) ≡ (if b then (e.0, to (sample_of e.1)) ∷ messages_of es else (e.0, sample_of e.1) ∷ changed id to (messages_of es))
    by true rest = ap (λ sample. (e.0, sample) ∷ messages_of es) (alike e.1)
    by false rest = ap (λ l. (e.0, sample_of e.1) ∷ l) rest

pub messages-set : (es : List (List ℕ × MessageEntry)) (id : List ℕ) (setting : MessageSetting) → messages_of (changed id (entry_with setting) es) ≡ changed id (sample_with setting) (messages_of es)
messages-set es id setting = messages-changed id (entry_with setting) (sample_with setting) (alike setting) es
  where
    alike : (s : MessageSetting) (entry : MessageEntry) → sample_of (entry_with s entry) ≡ sample_with s (sample_of entry)
    alike (own.Expected expected) entry = refl
    alike (own.Addresses addresses) entry = refl

-- where no entry has the id nothing changes
pub changed_absent : (id : List ℕ) (change : MessageEntry → MessageEntry) (es : List (List ℕ × MessageEntry)) → is_some (lookup (pointwise nat_eq id) es) ≡ false → changed id change es ≡ es
changed_absent id change [] absent = refl
changed_absent id change (e ∷ es) absent = by (pointwise nat_eq id e.0) absent (λ h. changed_absent id change es h)
  where
    by : (b : Bool) → is_some (cond b (Some e.1) (lookup (pointwise nat_eq id) es)) ≡ false → (is_some (lookup (pointwise nat_eq id) es) ≡ false → changed id change es ≡ es) → (if b then (e.0, change e.1) ∷ es else e ∷ changed id change es) ≡ e ∷ es
    by true absent rest = absurd cc
    by false absent rest = ap (λ l. e ∷ l) (rest absent)

-- to set the value of an id is to change it
pub set_changed : (id : List ℕ) (change : MessageEntry → MessageEntry) (es : List (List ℕ × MessageEntry)) (entry : MessageEntry) → lookup (pointwise nat_eq id) es ≡ Some entry → set_value (pointwise nat_eq id) es (change entry) ≡ changed id change es
set_changed id change [] entry there = refl
set_changed id change (e ∷ es) entry there = by (pointwise nat_eq id e.0) there (λ h. set_changed id change es entry h)
  where
    by : (b : Bool) → cond b (Some e.1) (lookup (pointwise nat_eq id) es) ≡ Some entry → (lookup (pointwise nat_eq id) es ≡ Some entry → set_value (pointwise nat_eq id) es (change entry) ≡ changed id change es)
        → cond b ((e.0, change entry) ∷ es) (e ∷ set_value (pointwise nat_eq id) es (change entry)) ≡ (if b then (e.0, change e.1) ∷ es else e ∷ changed id change es)
    by true there rest = let same : e.1 ≡ entry = cc in ap (λ (x : MessageEntry). (e.0, change x) ∷ es) (sym same)
    by false there rest = ap (λ l. e ∷ l) (rest there)

-- entries of which the first ones were changed, each in turn
abbrev pub so_far : (MessageEntry → MessageEntry) → List (List ℕ × MessageEntry) → ℕ → List (List ℕ × MessageEntry)
so_far change es zero = es
so_far change [] (suc i) = []
so_far change (e ∷ es) (suc i) = (e.0, change e.1) ∷ so_far change es i

pub one_further : (change : MessageEntry → MessageEntry) (es : List (List ℕ × MessageEntry)) (i : ℕ) (entry : MessageEntry) → slice_get (values_of (so_far change es i)) i ≡ Some entry → set_value_at (so_far change es i) i (change entry) ≡ so_far change es (suc i)
one_further change [] zero entry at = refl
one_further change [] (suc i) entry at = refl
one_further change (e ∷ es) zero entry at = let same : e.1 ≡ entry = cc in ap (λ x. (e.0, change x) ∷ es) (sym same)
one_further change (e ∷ es) (suc i) entry at = ap (λ l. (e.0, change e.1) ∷ l) (one_further change es i entry at)

pub none_further : (change : MessageEntry → MessageEntry) (es : List (List ℕ × MessageEntry)) (i : ℕ) → slice_get (values_of (so_far change es i)) i ≡ None → so_far change es i ≡ so_far change es (suc i)
none_further change [] zero at = refl
none_further change [] (suc i) at = refl
none_further change (e ∷ es) zero at = absurd cc
none_further change (e ∷ es) (suc i) at = ap (λ l. (e.0, change e.1) ∷ l) (none_further change es i at)

pub all_changed : (change : MessageEntry → MessageEntry) (es : List (List ℕ × MessageEntry)) → so_far change es (length es) ≡ map (λ e. (e.0, change e.1)) es
all_changed change [] = refl
all_changed change (e ∷ es) = ap (λ l. (e.0, change e.1) ∷ l) (all_changed change es)

-- a turn of the loop that changes each
pub one_turn : (change : MessageEntry → MessageEntry) (es now new : List (List ℕ × MessageEntry)) (i : ℕ) → MatchOption (slice_get (values_of now) i) (new ≡ now) (λ entry. new ≡ set_value_at now i (change entry)) → now ≡ so_far change es i → new ≡ so_far change es (suc i)
one_turn change es now new i made is = by (slice_get (values_of now) i) refl made
  where
    by : (found : Option MessageEntry) → slice_get (values_of now) i ≡ found → MatchOption found (new ≡ now) (λ entry. new ≡ set_value_at now i (change entry)) → new ≡ so_far change es (suc i)
    by None at made = made ∙ is ∙ none_further change es i (sym (ap (λ l. slice_get (values_of l) i) is) ∙ at)
    by (Some entry) at made = made ∙ ap (λ l. set_value_at l i (change entry)) is ∙ one_further change es i entry (sym (ap (λ l. slice_get (values_of l) i) is) ∙ at)

-- the rules that functions' attributes name
pub ruleset entries = (length-messages, is_some-messages, messages-put, messages-set, messages-remove_entry)
