-- How a report makes its runs, message by message.
use Rattle.std.proofs.Common.{◌≡◌, ℕ, zero, suc, ◌≤◌, List, [], ◌∷◌, ◌++◌, length, take, Bool, true, false, cond, Option, None, Some, IfSome, is_none, slice_get, nat_eq, refl, sym, ap, subst, ◌∙◌, append_assoc, append-nil, length-append, arith}
use Rattle.std.proofs.lemmas.List.{length-map}
use Rattle.std.specs.List.{IsDistinct}
use Rattle.std.specs.Map.{keys_of, values_of}
use lib.Pointwise.{pointwise}
use Rattle.indexmap.specs.Layout.{set_value_at}
use Rattle.sieve_run.specs.Meter.{next_run, runs_after}
use Rattle.sieve_verdict.specs.Verdict.{Verdict}
use Rattle.bench.specs.Bench.{RefusedAmong}
use Rattle.bench.specs.Content.{Sample}
use Rattle.bench.specs.declared.entry.MessageEntry.{MessageEntry}
use Rattle.bench.specs.view.Entry.{is_stale, messages_of, sample_of, stale_of, KeepsDue, kept_or, refreshed, runs_at}

-- Between two states of the entries and the meter, the stale ones among the first so many were run.
pub record Refreshing (due : Sample → Verdict) (old new : List (List ℕ × MessageEntry)) (place before after : ℕ) : Type 0 where
  pub done : List (List ℕ)
  pub messages : messages_of new ≡ messages_of old
  pub kept : KeepsDue due new
  pub fresh : stale_of (take place new) ≡ []
  pub whole : stale_of old ≡ done ++ stale_of new
  pub runs : after ≡ runs_after (length done) before

pub runs_more : (count runs : ℕ) → runs_after (suc count) runs ≡ next_run (runs_after count runs)
runs_more zero runs = refl
runs_more (suc count) runs = runs_more count (next_run runs)

-- AN ENTRY IN ITS PLACE

module _ (due : Sample → Verdict) where
  pub messages-refreshed : (es : List (List ℕ × MessageEntry)) (i : ℕ) (entry : MessageEntry) → slice_get (values_of es) i ≡ Some entry → messages_of (set_value_at es i (refreshed due entry)) ≡ messages_of es
  unfolding messages_of
  messages-refreshed [] i entry at = refl
  messages-refreshed (e ∷ es) zero entry at = let same : e.1 ≡ entry = cc in ap (λ x. (e.0, sample_of x) ∷ messages_of es) (sym same)
  messages-refreshed (e ∷ es) (suc i) entry at = ap (λ l. (e.0, sample_of e.1) ∷ l) (messages-refreshed es i entry at)

  due_entry : (sample : Sample) (kept : Option Verdict) → IfSome kept (λ verdict. verdict ≡ due sample) → IfSome (kept_or (due sample) kept) (λ verdict. verdict ≡ due sample)
  due_entry sample None is = refl
  due_entry sample (Some verdict) is = is

  pub due-refreshed : (es : List (List ℕ × MessageEntry)) (i : ℕ) (entry : MessageEntry) → slice_get (values_of es) i ≡ Some entry → KeepsDue due es → KeepsDue due (set_value_at es i (refreshed due entry))
  unfolding KeepsDue
  due-refreshed [] i entry at kept = kept
  due-refreshed (e ∷ es) zero entry at kept =
      let same : e.1 ≡ entry = cc in
      (due_entry (sample_of entry) entry.kept (subst (λ (x : MessageEntry). IfSome x.kept (λ verdict. verdict ≡ due (sample_of x))) same kept.0), kept.1)
  due-refreshed (e ∷ es) (suc i) entry at kept = (kept.0, due-refreshed es i entry at kept.1)

  is_fresh : (due_verdict : Verdict) (kept : Option Verdict) → is_none (kept_or due_verdict kept) ≡ false
  is_fresh due_verdict None = refl
  is_fresh due_verdict (Some verdict) = refl

  -- where the entries before a place are fresh, so are those up to it after the one there is
  -- refreshed
  pub fresh-refreshed : (es : List (List ℕ × MessageEntry)) (i : ℕ) (entry : MessageEntry) → slice_get (values_of es) i ≡ Some entry → stale_of (take i es) ≡ [] → stale_of (take (suc i) (set_value_at es i (refreshed due entry))) ≡ []
  unfolding stale_of
  fresh-refreshed [] i entry at fresh = refl
  fresh-refreshed (e ∷ es) zero entry at fresh = ap (λ b. cond b (e.0 ∷ []) []) (is_fresh (due (sample_of entry)) entry.kept)
  fresh-refreshed (e ∷ es) (suc i) entry at fresh = by (is_stale e.1) fresh (λ h. fresh-refreshed es i entry at h)
    where
      by : (b : Bool) → cond b (e.0 ∷ stale_of (take i es)) (stale_of (take i es)) ≡ []
          → (stale_of (take i es) ≡ [] → stale_of (take (suc i) (set_value_at es i (refreshed due entry))) ≡ [])
          → cond b (e.0 ∷ stale_of (take (suc i) (set_value_at es i (refreshed due entry)))) (stale_of (take (suc i) (set_value_at es i (refreshed due entry)))) ≡ []
      by true fresh more = absurd cc
      by false fresh more = more fresh

  -- a stale entry that is refreshed, with only fresh ones before it, was the first stale one
  pub stale-refreshed : (es : List (List ℕ × MessageEntry)) (i : ℕ) (entry : MessageEntry) → slice_get (values_of es) i ≡ Some entry → is_stale entry ≡ true → stale_of (take i es) ≡ []
      → (id : List ℕ) × (stale_of es ≡ id ∷ stale_of (set_value_at es i (refreshed due entry)))
  unfolding stale_of
  stale-refreshed [] i entry at stale fresh = absurd cc
  stale-refreshed (e ∷ es) zero entry at stale fresh =
      let same : e.1 ≡ entry = cc in
      let was : is_stale e.1 ≡ true = rw same stale in
      (e.0, rw (was, is_fresh (due (sample_of entry)) entry.kept) refl)
  stale-refreshed (e ∷ es) (suc i) entry at stale fresh = by (is_stale e.1) fresh (λ h. stale-refreshed es i entry at stale h)
    where
      by : (b : Bool) → cond b (e.0 ∷ stale_of (take i es)) (stale_of (take i es)) ≡ []
          → (stale_of (take i es) ≡ [] → (id : List ℕ) × (stale_of es ≡ id ∷ stale_of (set_value_at es i (refreshed due entry))))
          → (id : List ℕ) × (cond b (e.0 ∷ stale_of es) (stale_of es) ≡ id ∷ cond b (e.0 ∷ stale_of (set_value_at es i (refreshed due entry))) (stale_of (set_value_at es i (refreshed due entry))))
      by true fresh more = absurd cc
      by false fresh more = more fresh

  -- refreshing an entry that wasn't stale leaves the stale ids as they are
  pub same-refreshed : (es : List (List ℕ × MessageEntry)) (i : ℕ) (entry : MessageEntry) → slice_get (values_of es) i ≡ Some entry → is_stale entry ≡ false → stale_of (set_value_at es i (refreshed due entry)) ≡ stale_of es
  unfolding stale_of
  same-refreshed [] i entry at fresh = refl
  same-refreshed (e ∷ es) zero entry at fresh =
      let same : e.1 ≡ entry = cc in
      let was : is_stale e.1 ≡ false = rw same fresh in
      rw (was, is_fresh (due (sample_of entry)) entry.kept) refl
  same-refreshed (e ∷ es) (suc i) entry at fresh = ap (λ l. cond (is_stale e.1) (e.0 ∷ l) l) (same-refreshed es i entry at fresh)

-- to put an entry in the place where it stands changes nothing
pub same_value : (es : List (List ℕ × MessageEntry)) (i : ℕ) (entry : MessageEntry) → slice_get (values_of es) i ≡ Some entry → set_value_at es i entry ≡ es
same_value [] i entry at = refl
same_value (e ∷ es) zero entry at = let same : e.1 ≡ entry = cc in ap (λ x. (e.0, x) ∷ es) (sym same)
same_value (e ∷ es) (suc i) entry at = ap (λ l. e ∷ l) (same_value es i entry at)

-- THE LOOP

pub starts : (due : Sample → Verdict) (es : List (List ℕ × MessageEntry)) (runs : ℕ) → KeepsDue due es → Refreshing due es es 0 runs runs
unfolding stale_of
starts due es runs kept = record {
  done = [];
  messages = refl;
  kept = kept;
  fresh = refl;
  whole = refl;
  runs = refl;
}

pub one_more : (due : Sample → Verdict) (old es : List (List ℕ × MessageEntry)) (i before runs : ℕ) (entry : MessageEntry)
    → Refreshing due old es i before runs → slice_get (values_of es) i ≡ Some entry → Refreshing due old (set_value_at es i (refreshed due entry)) (suc i) before (runs_at entry runs)
one_more due old es i before runs entry so_far at = by (is_stale entry) refl
  where
    next : List (List ℕ × MessageEntry)
    next = set_value_at es i (refreshed due entry)

    by : (b : Bool) → is_stale entry ≡ b → Refreshing due old (set_value_at es i (refreshed due entry)) (suc i) before (cond b (next_run runs) runs)
    by true stale =
        let cut : (id : List ℕ) × (stale_of es ≡ id ∷ stale_of (set_value_at es i (refreshed due entry))) = stale-refreshed due es i entry at stale so_far.fresh in
        record {
          done = so_far.done ++ cut.0 ∷ [];
          messages = messages-refreshed due es i entry at ∙ so_far.messages;
          kept = due-refreshed due es i entry at so_far.kept;
          fresh = fresh-refreshed due es i entry at so_far.fresh;
          whole = so_far.whole ∙ ap (λ l. so_far.done ++ l) cut.1 ∙ sym (append_assoc so_far.done (cut.0 ∷ []) (stale_of (set_value_at es i (refreshed due entry))));
          runs = ap next_run so_far.runs ∙ sym (runs_more (length so_far.done) before) ∙ ap (λ n. runs_after n before) (let e : suc (length so_far.done) ≡ length (so_far.done ++ cut.0 ∷ []) = omega (arith, length-append so_far.done (cut.0 ∷ [])) in e);
        }
    by false fresh = record {
      done = so_far.done;
      messages = messages-refreshed due es i entry at ∙ so_far.messages;
      kept = due-refreshed due es i entry at so_far.kept;
      fresh = fresh-refreshed due es i entry at so_far.fresh;
      whole = so_far.whole ∙ ap (λ l. so_far.done ++ l) (sym (same-refreshed due es i entry at fresh));
      runs = so_far.runs;
    }

pub refused : (due : Sample → Verdict) (old es : List (List ℕ × MessageEntry)) (i before runs : ℕ) (entry : MessageEntry)
    → Refreshing due old es i before runs → slice_get (values_of es) i ≡ Some entry → is_stale entry ≡ true → RefusedAmong (stale_of old) (stale_of es) before (next_run runs)
refused due old es i before runs entry so_far at stale =
    let cut : (id : List ℕ) × (stale_of es ≡ id ∷ stale_of (set_value_at es i (refreshed due entry))) = stale-refreshed due es i entry at stale so_far.fresh in
    record {
      done = so_far.done;
      whole = so_far.whole;
      more = rw cut.1 (omega arith);
      runs = ap next_run so_far.runs ∙ sym (runs_more (length so_far.done) before);
    }

same_length : (old new : List (List ℕ × MessageEntry)) → messages_of new ≡ messages_of old → length new ≡ length old
unfolding messages_of
same_length old new same = sym (length-map new _) ∙ ap length same ∙ length-map old _

pub keys-messages : (es : List (List ℕ × MessageEntry)) → keys_of (messages_of es) ≡ keys_of es
unfolding messages_of
keys-messages [] = refl
keys-messages (e ∷ es) = ap (λ l. e.0 ∷ l) (keys-messages es)

-- where no id stands twice among some entries, none does among other entries of the same messages
pub distinct-messages : (old new : List (List ℕ × MessageEntry)) → messages_of new ≡ messages_of old → IsDistinct (pointwise nat_eq) (keys_of old) → IsDistinct (pointwise nat_eq) (keys_of new)
distinct-messages old new same distinct = subst (IsDistinct (pointwise nat_eq)) (sym (keys-messages old) ∙ ap keys_of (sym same) ∙ keys-messages new) distinct

take_none : (n : ℕ) → take n (let none : List (List ℕ × MessageEntry) = [] in none) ≡ []
take_none zero = refl
take_none (suc n) = refl

take_all : (es : List (List ℕ × MessageEntry)) (n : ℕ) → length es ≤ n → take n es ≡ es
take_all [] n all = take_none n
take_all (e ∷ es) zero all = absurd (omega arith)
take_all (e ∷ es) (suc n) all = ap (λ l. e ∷ l) (take_all es n (omega arith))

pub none_left : (due : Sample → Verdict) (old es : List (List ℕ × MessageEntry)) (count before runs : ℕ) → Refreshing due old es count before runs → length old ≤ count → stale_of es ≡ []
none_left due old es count before runs so_far all =
    let same : length es ≡ length old = same_length old es so_far.messages in
    ap stale_of (sym (take_all es count (omega arith))) ∙ so_far.fresh

pub all_run : (due : Sample → Verdict) (old es : List (List ℕ × MessageEntry)) (count before runs : ℕ) → Refreshing due old es count before runs → length old ≤ count → runs ≡ runs_after (length (stale_of old)) before
all_run due old es count before runs so_far all =
    let none = none_left due old es count before runs so_far all in
    so_far.runs ∙ ap (λ l. runs_after (length l) before) (sym (append-nil so_far.done) ∙ ap (λ l. so_far.done ++ l) (sym none) ∙ sym so_far.whole)

no_more : (es : List (List ℕ × MessageEntry)) (i : ℕ) → slice_get (values_of es) i ≡ None → take (suc i) es ≡ take i es
no_more [] i at = sym (take_none i)
no_more (e ∷ es) zero at = absurd cc
no_more (e ∷ es) (suc i) at = ap (λ l. e ∷ l) (no_more es i at)

pub skipped : (due : Sample → Verdict) (old es : List (List ℕ × MessageEntry)) (i before runs : ℕ) → Refreshing due old es i before runs → slice_get (values_of es) i ≡ None → Refreshing due old es (suc i) before runs
skipped due old es i before runs so_far at = record {
  done = so_far.done;
  messages = so_far.messages;
  kept = so_far.kept;
  fresh = ap stale_of (no_more es i at) ∙ so_far.fresh;
  whole = so_far.whole;
  runs = so_far.runs;
}
