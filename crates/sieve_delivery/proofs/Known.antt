-- The number of internal flags that are known to be among an action's own. It is followed while the
-- internal flags and the actions change.
use Rattle.std.proofs.Common.{◌≡◌, ℕ, zero, suc, Option, None, Some, ◌+◌, ◌<◌, ◌≤◌, length, take, drop, get_or, remove, Bool, true, false, ◌||◌, List, [], ◌∷◌, ◌++◌, map, slice_set, refl, add-one, append-nil, append_assoc, sym, ap, subst, ◌∙◌, arith}
use Rattle.std.specs.Prelude.{if◌then◌else◌}
use Rattle.std.specs.List.{All}
use Rattle.std.proofs.lemmas.List.{drop_all, length-append, map-append, take-append-le, take_all}
use Rattle.std.proofs.lemmas.List.Edits.{length-remove}
use Rattle.std.proofs.lemmas.List.Elements.{All-cons, All-head, All-nil, All-tail, All-weaker}
use Rattle.std.proofs.lemmas.List.Folds.{list_any-append}
use Rattle.std.proofs.lemmas.Bool.Decides.{nat_tests}
use Rattle.match_text.specs.Comparator.{ascii_casemap, same}
use Rattle.flag_lists.specs.Flags.{distinct, flag_union, flags_without, has_flag}
use Rattle.sieve_delivery.specs.Ending.{goes_on}
use Rattle.sieve_delivery.specs.Joining.{brought_by, joined_entry, joined_with, same_action}
use Rattle.sieve_delivery.specs.Performing.{cancelled_by, ends_with, entry_at, fails_at, performs, refused, with_entry}
use Rattle.sieve_delivery.specs.Delivery.{Delivery}
use Rattle.sieve_delivery.specs.State.{Entered, RunState}
use Rattle.sieve_delivery.specs.declared.action.Deed.{Deed}
use Rattle.sieve_delivery.specs.declared.error.ErrorKind.{ErrorKind}
use Rattle.sieve_delivery.specs.declared.action.Action.{Action}
use Rattle.sieve_delivery.specs.declared.action.Action.TheVariants.{Store, Redirect, Discard, Respond, Reject}
use Rattle.sieve_delivery.specs.declared.action.Entry.{Entry}
use Rattle.sieve_delivery.specs.declared.actions.Performed as performances
use Rattle.sieve_delivery.specs.declared.actions.Performed.TheVariants.{Accepted, Refused}
use Rattle.sieve_delivery.specs.view.Actions.{AreAmong, AreKnown, EntriesAndFlags, IsKnown, entered_of, entries_as, joined_in, lowered, lowered_in, performed_as}

-- KNOWN FLAGS

-- a flag that is among a store's own is still among them after others are added
own_grows : (own flags : List (List ℕ)) (x : List ℕ) → has_flag own x ≡ true → has_flag (flag_union own flags) x ≡ true
unfolding flag_union
own_grows own flags x there = list_any-append (same ascii_casemap x) own (flags_without (distinct flags) own) ∙ ap (λ b. b || has_flag (flags_without (distinct flags) own) x) there

among_joined : (flags : List (List ℕ)) (n : ℕ) (action there : Action) → AreAmong flags n there → AreAmong flags n (brought_by action there)
among_joined flags n (Store mailbox more filing) (Store other own kept) among = All-weaker (λ x. has_flag own x ≡ true) (λ x. has_flag (flag_union own more) x ≡ true) (own_grows own more) (take n flags) among
among_joined flags n (Store mailbox more filing) (Redirect address) among = among
among_joined flags n (Store mailbox more filing) Discard among = among
among_joined flags n (Store mailbox more filing) (Respond response) among = among
among_joined flags n (Store mailbox more filing) (Reject how reason) among = among
among_joined flags n (Redirect address) there among = among
among_joined flags n Discard there among = among
among_joined flags n (Respond response) there among = among
among_joined flags n (Reject how reason) there among = among

known_joined : (flags : List (List ℕ)) (n : ℕ) (action there : Action) → IsKnown flags n there → IsKnown flags n (joined_with action there)
known_joined flags n action there known = record { within = known.within; among = by (same_action action there) }
  where
    by : (b : Bool) → AreAmong flags n (if b then brought_by action there else there)
    by true = among_joined flags n action there known.among
    by false = known.among

pub are_known_joined : (flags : List (List ℕ)) (action : Action) (entries : List Entry) → AreKnown flags entries → AreKnown flags (map (joined_in action) entries)
are_known_joined flags action [] known = tt
are_known_joined flags action (there ∷ entries) known = (known_joined flags there.known action there.action known.0, are_known_joined flags action entries known.1)

-- none of the flags is known to be among an action's own
nothing_known : (flags : List (List ℕ)) (action : Action) → IsKnown flags 0 action
nothing_known flags (Store mailbox own filing) = record { within = omega arith; among = All-nil (λ x. has_flag own x ≡ true) }
nothing_known flags (Redirect address) = record { within = omega arith; among = tt }
nothing_known flags Discard = record { within = omega arith; among = tt }
nothing_known flags (Respond response) = record { within = omega arith; among = tt }
nothing_known flags (Reject how reason) = record { within = omega arith; among = tt }

pub are_known_forgotten : (flags : List (List ℕ)) (entries : List Entry) → AreKnown flags (map (lowered_in None) entries)
are_known_forgotten flags [] = tt
are_known_forgotten flags (there ∷ entries) = (nothing_known flags there.action, are_known_forgotten flags entries)

-- If facts are known of actions in turn, and of one action more, they are known of the longer list.
pub known_push : (flags : List (List ℕ)) (entries : List Entry) (entry : Entry) → AreKnown flags entries → IsKnown flags entry.known entry.action → AreKnown flags (entries ++ entry ∷ [])
known_push flags [] entry known one = (one, tt)
known_push flags (there ∷ entries) entry known one = (known.0, known_push flags entries entry known.1 one)

-- Facts known of actions stay known after a new action is added, of which nothing is known.
pub are_known_pushed : (flags : List (List ℕ)) (entries : List Entry) (entry : Entry) → AreKnown flags entries → entry.known ≡ 0 → AreKnown flags (entries ++ entry ∷ [])
are_known_pushed flags entries entry known none = known_push flags entries entry known (subst (λ (n : ℕ). IsKnown flags n entry.action) (sym none) (nothing_known flags entry.action))

-- FLAGS THAT ARE ADDED

among_longer : (flags more : List (List ℕ)) (n : ℕ) (action : Action) → n ≤ length flags → AreAmong flags n action → AreAmong (flags ++ more) n action
among_longer flags more n (Store mailbox own filing) within among = subst (λ (l : List (List ℕ)). All (λ (x : List ℕ). has_flag own x ≡ true) l) (sym (take-append-le n flags more within)) among
among_longer flags more n (Redirect address) within among = among
among_longer flags more n Discard within among = among
among_longer flags more n (Respond response) within among = among
among_longer flags more n (Reject how reason) within among = among

known_longer : (flags more : List (List ℕ)) (n : ℕ) (action : Action) → IsKnown flags n action → IsKnown (flags ++ more) n action
known_longer flags more n action known =
    let long = length-append flags more in let within = known.within in
    record { within = omega (arith, long, within); among = among_longer flags more n action known.within known.among }

pub are_known_longer : (flags more : List (List ℕ)) (entries : List Entry) → AreKnown flags entries → AreKnown (flags ++ more) entries
are_known_longer flags more [] known = tt
are_known_longer flags more (entry ∷ entries) known = (known_longer flags more entry.known entry.action known.0, are_known_longer flags more entries known.1)

pub are_known_union : (flags named : List (List ℕ)) (entries : List Entry) → AreKnown flags entries → AreKnown (flag_union flags named) entries
unfolding flag_union
are_known_union flags named entries known = are_known_longer flags (flags_without (distinct named) flags) entries known

-- FLAGS THAT ARE REMOVED

all_lowered : (P : List ℕ → Type 0) (flags : List (List ℕ)) (i n : ℕ) → i < length flags → All P (take n flags) → All P (take (lowered (Some i) n) (remove flags i))
all_lowered P [] i n below all = absurd (omega arith)
all_lowered P (x ∷ flags) zero zero below all =
    let less : lowered (Some zero) zero ≡ zero = grind (arith, nat_tests) in
    subst (λ (m : ℕ). All P (take m flags)) (sym less) (All-nil P)
all_lowered P (x ∷ flags) zero (suc n) below all =
    let less : lowered (Some zero) (suc n) ≡ n = grind (arith, nat_tests) in
    subst (λ (m : ℕ). All P (take m flags)) (sym less) (All-tail P x (take n flags) all)
all_lowered P (x ∷ flags) (suc i) zero below all =
    let less : lowered (Some (suc i)) zero ≡ zero = grind (arith, nat_tests) in
    subst (λ (m : ℕ). All P (take m (x ∷ remove flags i))) (sym less) (All-nil P)
all_lowered P (x ∷ flags) (suc i) (suc n) below all =
    let further : lowered (Some (suc i)) (suc n) ≡ suc (lowered (Some i) n) = grind (arith, nat_tests) in
    subst (λ (m : ℕ). All P (take m (x ∷ remove flags i))) (sym further)
    (All-cons P x (take (lowered (Some i) n) (remove flags i)) (All-head P x (take n flags) all) (all_lowered P flags i n (omega arith) (All-tail P x (take n flags) all)))

among_lowered : (flags : List (List ℕ)) (i n : ℕ) (action : Action) → i < length flags → AreAmong flags n action → AreAmong (remove flags i) (lowered (Some i) n) action
among_lowered flags i n (Store mailbox own filing) below among = all_lowered (λ x. has_flag own x ≡ true) flags i n below among
among_lowered flags i n (Redirect address) below among = among
among_lowered flags i n Discard below among = among
among_lowered flags i n (Respond response) below among = among
among_lowered flags i n (Reject how reason) below among = among

known_lowered : (flags : List (List ℕ)) (i n : ℕ) (action : Action) → i < length flags → IsKnown flags n action → IsKnown (remove flags i) (lowered (Some i) n) action
known_lowered flags i n action below known =
    let long = length-remove flags i below in let within = known.within in
    record { within = grind (arith, nat_tests, long, within, below); among = among_lowered flags i n action below known.among }

pub are_known_lowered : (flags : List (List ℕ)) (i : ℕ) (entries : List Entry) → i < length flags → AreKnown flags entries → AreKnown (remove flags i) (map (lowered_in (Some i)) entries)
are_known_lowered flags i [] below known = tt
are_known_lowered flags i (entry ∷ entries) below known = (known_lowered flags i entry.known entry.action below known.0, are_known_lowered flags i entries below known.1)

-- IN LOOPS

module _ {X : Type 0} (change : X → X) where
  -- After the items before an index are changed, changing the one at the index changes those before
  -- the next index.
  one_changed : (items : List X) (i : ℕ) (d : X) → i < length items → slice_set (map change (take i items) ++ drop i items) i (change (get_or (map change (take i items) ++ drop i items) i d)) ≡ map change (take (suc i) items) ++ drop (suc i) items
  one_changed [] i d below = absurd (omega arith)
  one_changed (x ∷ items) zero d below = refl
  one_changed (x ∷ items) (suc i) d below = ap (λ l. change x ∷ l) (one_changed items i d (omega arith))

  pub one_changed_more : (items new : List X) (i : ℕ) (d x : X) → i < length items → new ≡ map change (take i items) ++ drop i items → x ≡ change (get_or new i d)
      → slice_set new i x ≡ map change (take (i + 1) items) ++ drop (i + 1) items
  one_changed_more items new i d x below is one =
      ap (λ y. slice_set new i y) one ∙ ap (λ l. slice_set l i (change (get_or l i d))) is ∙ one_changed items i d below
      ∙ ap (λ m. map change (take m items) ++ drop m items) (sym (add-one i))

  -- if the index is after the last item, all items are changed
  pub all_changed_so : (items : List X) (i : ℕ) → length items ≤ i → map change (take i items) ++ drop i items ≡ map change items
  all_changed_so items i past =
      ap (λ l. map change (take i items) ++ l) (drop_all i items past) ∙ append-nil (map change (take i items)) ∙ ap (map change) (take_all i items past)

  -- The first item that is left is changed and put after those that are done. Then the items still
  -- make the same whole.
  pub one_remade : (done done' left left' whole : List X) (there made : X) → done' ≡ done ++ made ∷ [] → made ≡ change there → left ≡ there ∷ left' → done ++ map change left ≡ whole → done' ++ map change left' ≡ whole
  one_remade done done' left left' whole there made one is split so =
      ap (λ l. l ++ map change left') one ∙ append_assoc done (made ∷ []) (map change left') ∙ ap (λ x. done ++ x ∷ map change left') is ∙ ap (λ l. done ++ map change l) (sym split) ∙ so

-- after as many items are written over the old ones as there were, none of the old ones is left
pub all_written : {X : Type 0} (len : ℕ) (new items wanted : List X) → length new ≡ length items → length items ≡ len → new ≡ wanted → take len (new ++ drop (length new) items) ≡ wanted
all_written len new items wanted long whole is =
    ap (λ l. take len (new ++ l)) (drop_all (length new) items (omega (arith, long))) ∙ ap (take len) (append-nil new) ∙ take_all len new (omega (arith, long, whole)) ∙ is

-- THE VIEW OF CONTRACTS

-- entries and flags as contracts see them
abbrev pub both_of : List Entered → List (List ℕ) → EntriesAndFlags
both_of entries flags = record { entries = entries; flags = flags }

-- the entries of a list that is one longer
as_pushed : (entries : List Entry) (entry : Entry) → entries_as (entries ++ entry ∷ []) ≡ entries_as entries ++ entered_of entry ∷ []
as_pushed entries entry = map-append entered_of entries (entry ∷ [])

pub as_joined : (action : Action) (entries : List Entry) → entries_as (map (joined_in action) entries) ≡ map (joined_entry action) (entries_as entries)
as_joined action [] = refl
as_joined action (entry ∷ entries) = ap (λ l. joined_entry action (entered_of entry) ∷ l) (as_joined action entries)

pub as_lowered : (place : Option ℕ) (entries : List Entry) → entries_as (map (lowered_in place) entries) ≡ entries_as entries
as_lowered place [] = refl
as_lowered place (entry ∷ entries) = ap (λ l. entered_of entry ∷ l) (as_lowered place entries)

-- the entries and the flags of two states are the same if each are
pub same_both : (entries entries' : List Entered) (flags flags' : List (List ℕ)) → entries ≡ entries' → flags ≡ flags' → both_of entries flags ≡ both_of entries' flags'
same_both entries entries' flags flags' e f = ap (λ (l : List Entered). both_of l flags) e ∙ ap (both_of entries') f

-- The first entry that is left is joined and put after those that are done. Then the entries still
-- make the same whole.
pub entry_remade : (action : Action) (done done' left left' : List Entry) (whole : List Entered) (there made : Entry) → done' ≡ done ++ made ∷ [] → entered_of made ≡ joined_entry action (entered_of there) → left ≡ there ∷ left'
    → entries_as done ++ map (joined_entry action) (entries_as left) ≡ whole → entries_as done' ++ map (joined_entry action) (entries_as left') ≡ whole
entry_remade action done done' left left' whole there made one is split so =
    one_remade (joined_entry action) (entries_as done) (entries_as done') (map entered_of left) (entries_as left') whole (entered_of there) (entered_of made) (ap entries_as one ∙ as_pushed done made) is (ap entries_as split) so

-- FLAGS THAT ARE CHANGED IN TURN

module _ (change : List (List ℕ) → List (List ℕ) → List (List ℕ)) where
  -- After the first of some flags have changed the flags, the others change them to the result of
  -- all.
  pub changed_on : (old new wanted : EntriesAndFlags) (all first others : List (List ℕ)) → ((flags : List (List ℕ)) → change flags all ≡ change (change flags first) others)
      → new ≡ record old { flags = change old.flags first } → record old { flags = change old.flags all } ≡ wanted → record new { flags = change new.flags others } ≡ wanted
  changed_on old new wanted all first others more made so =
      ap (λ (a : EntriesAndFlags). record a { flags = change a.flags others }) made ∙ ap (λ (l : List (List ℕ)). record old { flags = l }) (sym (more old.flags)) ∙ so

  -- if the flags that are left change nothing, the flags are the wanted ones
  pub changed_all : (old wanted : EntriesAndFlags) (left : List (List ℕ)) → ((flags : List (List ℕ)) → change flags left ≡ flags) → record old { flags = change old.flags left } ≡ wanted → old ≡ wanted
  changed_all old wanted left none so = ap (λ (l : List (List ℕ)). record old { flags = l }) (sym (none old.flags)) ∙ so

-- THE END OF A COMMAND THAT PERFORMS AN ACTION

-- A command that performs an action ends as the action was accepted or refused. The actions are as
-- they were if it was refused.
pub ended_so : (delivery : Delivery) (line : ℕ) (deed : Deed) (old new : RunState) (added : performances.Performed) → ((kind : ErrorKind) → added ≡ Refused kind → new.entries ≡ old.entries)
    → performed_as added new.entries ≡ with_entry (entry_at delivery line deed.action) old.entries → new ≡ record old { entries = new.entries } → ends_with delivery line deed (performed_as added new.entries) new ≡ performs delivery line deed old
ended_so delivery line deed old new Accepted kept value is =
    ap (λ (s : RunState). goes_on (record s { entries = new.entries; cancelled = cancelled_by deed s })) is ∙ ap (λ p. ends_with delivery line deed p old) value
ended_so delivery line deed old new (Refused kind) kept value is =
    ap (λ (s : RunState). fails_at delivery line kind s) (is ∙ ap (λ (l : List Entered). record old { entries = l }) (kept kind refl)) ∙ ap (λ p. ends_with delivery line deed p old) value
