-- How the marks of the entries give the stale messages, and which verdicts stay due.
use Rattle.octets.specs.Octet.{is_among}
use Rattle.std.proofs.Common.{◌≡◌, ℕ, List, [], ◌∷◌, map, filter, Bool, true, false, cond, ◌&&◌, ◌||◌, if◌then◌else◌, Option, None, Some, IfSome, is_none, nat_eq, refl, sym, ap, subst, ◌∙◌}
use Rattle.std.proofs.lemmas.Map.Keys.{IsDistinct-head, IsDistinct-tail}
use Rattle.std.specs.List.{AllByRecursion, IsDistinct}
use Rattle.std.specs.Map.{keys_of, lookup, remove_entry}
use Rattle.std.specs.Option.{option_map}
use lib.Pointwise.{pointwise}
use Rattle.indexmap.specs.IndexMap as ordered
use Rattle.script_names.specs.Name.{name_eq}
use Rattle.sieve_delivery.specs.Delivery.{Arrival}
use Rattle.script_names.specs.declared.name.ScriptName.{ScriptName}
use Rattle.sieve_delivery.specs.declared.envelope.Addresses.{Addresses}
use Rattle.sieve_run.specs.Frame.{Agree, LibraryTexts, verdict_over}
use Rattle.sieve_run.specs.Run.{is_looked_up}
use Rattle.sieve_verdict.specs.Verdict.{Verdict}
use Rattle.bench.specs.Content.{Sample, changed, text_at}
use Rattle.bench.specs.Report.{Site, verdict_by}
use Rattle.bench.specs.Stale.{ids_where, is_seen}
use Rattle.bench.specs.declared.entry.MessageEntry.{MessageEntry}
use Rattle.bench.specs.declared.setting.MessageSetting.{MessageSetting}
use Rattle.bench.specs.declared.setting.MessageSetting.TheVariants as own
use Rattle.bench.specs.view.Entry.{is_stale, messages_of, sample_of, stale_of, KeepsDue, forgotten, fresh_entry, kept_without, unread, entry_with}
use Rattle.bench.specs.view.Site.{with_scripts}
use Rattle.bench.proofs.Names.{is_id, is_name, other_id, same_id}

or_true : (a b : Bool) → a ≡ true → (a || b) ≡ true
or_true a b is = rw is refl

or_false : (a b : Bool) → a ≡ false → (a || b) ≡ b
or_false a b is = rw is refl

-- WHICH IDS ARE AMONG THE STALE ONES

-- an id that no entry has is not among the stale ids
unlisted : (id : List ℕ) (es : List (List ℕ × MessageEntry)) → AllByRecursion (λ k. pointwise nat_eq id k ≡ false) (keys_of es) → is_among id (stale_of es) ≡ false
unfolding stale_of
unlisted id [] apart = refl
unlisted id (e ∷ es) apart = by (is_stale e.1) (unlisted id es apart.1)
  where
    by : (b : Bool) → is_among id (stale_of es) ≡ false → is_among id (cond b (e.0 ∷ stale_of es) (stale_of es)) ≡ false
    by true rest = or_false (pointwise nat_eq id e.0) (is_among id (stale_of es)) apart.0 ∙ rest
    by false rest = rest

-- a test says which entries are stale
abbrev pub Tells : (List ℕ × Sample → Bool) → List (List ℕ × MessageEntry) → Type 0
Tells test es = AllByRecursion (λ e. test (e.0, sample_of e.1) ≡ is_stale e.1) es

-- a list of ids that says which entries are stale still does with an id of no entry in front
more_told : (id : List ℕ) (b : Bool) (ids : List (List ℕ)) (es : List (List ℕ × MessageEntry)) → AllByRecursion (λ k. pointwise nat_eq id k ≡ false) (keys_of es) → Tells (λ m. is_among m.0 ids) es → Tells (λ m. is_among m.0 (cond b (id ∷ ids) ids)) es
more_told id b ids [] apart told = tt
more_told id b ids (e ∷ es) apart told = (by b told.0, more_told id b ids es apart.1 told.1)
  where
    by : (b : Bool) → is_among e.0 ids ≡ is_stale e.1 → is_among e.0 (cond b (id ∷ ids) ids) ≡ is_stale e.1
    by true is = or_false (pointwise nat_eq e.0 id) (is_among e.0 ids) (other_id id e.0 apart.0) ∙ is
    by false is = is

-- each id is among the stale ids exactly where its entry is stale
pub told : (es : List (List ℕ × MessageEntry)) → IsDistinct (pointwise nat_eq) (keys_of es) → Tells (λ m. is_among m.0 (stale_of es)) es
unfolding stale_of
told [] distinct = tt
told (e ∷ es) distinct =
    let apart : AllByRecursion (λ k. pointwise nat_eq e.0 k ≡ false) (keys_of es) = IsDistinct-head (pointwise nat_eq) e.0 (keys_of es) distinct in
    (by (is_stale e.1) (unlisted e.0 es apart), more_told e.0 (is_stale e.1) (stale_of es) es apart (told es (IsDistinct-tail (pointwise nat_eq) e.0 (keys_of es) distinct)))
  where
    by : (b : Bool) → is_among e.0 (stale_of es) ≡ false → is_among e.0 (cond b (e.0 ∷ stale_of es) (stale_of es)) ≡ b
    by true absent = or_true (pointwise nat_eq e.0 e.0) (is_among e.0 (stale_of es)) (same_id e.0)
    by false absent = absent

-- the stale ids are those of the messages that pass a test that says which entries are stale
pub passing : (test : List ℕ × Sample → Bool) (es : List (List ℕ × MessageEntry)) → Tells test es → stale_of es ≡ ids_where test (messages_of es)
unfolding stale_of messages_of ids_where
passing test [] tells = refl
passing test (e ∷ es) tells = rw (← tells.0) (by (test (e.0, sample_of e.1)) (passing test es tells.1))
  where
    by : (b : Bool) → stale_of es ≡ ids_where test (messages_of es) → cond b (e.0 ∷ stale_of es) (stale_of es) ≡ map (λ m. m.0) (cond b ((e.0, sample_of e.1) ∷ filter test (messages_of es)) (filter test (messages_of es)))
    by true rest = ap (λ l. e.0 ∷ l) rest
    by false rest = rest

-- a test that equals one that says which entries are stale says so too
pub tells_too : (test other : List ℕ × Sample → Bool) (es : List (List ℕ × MessageEntry)) → ((m : List ℕ × Sample) → other m ≡ test m) → Tells test es → Tells other es
tells_too test other [] alike tells = tt
tells_too test other (e ∷ es) alike tells = (alike (e.0, sample_of e.1) ∙ tells.0, tells_too test other es alike tells.1)

-- MARKS FOR A NAME

-- the entries, marked where their runs looked the name up
abbrev pub marked : ScriptName → List (List ℕ × MessageEntry) → List (List ℕ × MessageEntry)
marked name es = map (λ e. (e.0, unread name e.1)) es

stale_for : (due : Verdict) (name : ScriptName) (before : Bool) (kept : Option Verdict) → IfSome kept (λ verdict. verdict ≡ due) → before ≡ is_none kept → (is_looked_up name due.lookups || before) ≡ is_none (kept_without name kept)
stale_for due name before None is tells = rw tells (by (is_looked_up name due.lookups))
  where
    by : (b : Bool) → (b || true) ≡ true
    by true = refl
    by false = refl
stale_for due name before (Some verdict) is tells = rw (tells, ← is) (by (is_looked_up name verdict.lookups))
  where
    by : (b : Bool) → (b || false) ≡ is_none (cond b None (Some verdict))
    by true = refl
    by false = refl

-- after a mark for a name those entries are stale whose runs looked it up, and those that were
-- stale
pub tells-marked : (due : Sample → Verdict) (name : ScriptName) (test : List ℕ × Sample → Bool) (es : List (List ℕ × MessageEntry)) → KeepsDue due es → Tells test es → Tells (λ m. is_looked_up name (due m.1).lookups || test m) (marked name es)
unfolding KeepsDue
tells-marked due name test [] kept tells = tt
tells-marked due name test (e ∷ es) kept tells = (stale_for (due (sample_of e.1)) name (test (e.0, sample_of e.1)) e.1.kept kept.0 tells.0, tells-marked due name test es kept.1 tells.1)

-- The frame. A verdict is the same over each library with the same text, or none, at each looked-up
-- name.
abbrev pub IsFramed : Type 0
IsFramed =
    (texts others : LibraryTexts) (main : Option ScriptName) (arrival : Arrival) → Agree texts others (verdict_over texts main arrival).lookups
    → verdict_over others main arrival ≡ verdict_over texts main arrival

-- a verdict that isn't marked stays due, where the text at no other name changes
still_due : IsFramed → (texts others : LibraryTexts) (main : Option ScriptName) (arrival : Arrival) (name : ScriptName) (kept : Option Verdict)
    → ((other : ScriptName) → name_eq name other ≡ false → texts other ≡ others other)
    → IfSome kept (λ verdict. verdict ≡ verdict_over texts main arrival) → IfSome (kept_without name kept) (λ verdict. verdict ≡ verdict_over others main arrival)
still_due frame texts others main arrival name None alike is = tt
still_due frame texts others main arrival name (Some verdict) alike is = by (is_looked_up name verdict.lookups) refl
  where
    agree : is_looked_up name verdict.lookups ≡ false → (other : ScriptName) → is_looked_up other verdict.lookups ≡ true → (b : Bool) → name_eq name other ≡ b → texts other ≡ others other
    agree unread other read true is = let e : name ≡ other = is_name name other is in absurd (let f : is_looked_up other verdict.lookups ≡ false = rw (← e) unread in cc)
    agree unread other read false is = alike other is

    by : (b : Bool) → is_looked_up name verdict.lookups ≡ b → IfSome (cond b None (Some verdict)) (λ verdict. verdict ≡ verdict_over others main arrival)
    by true read = tt
    by false unread =
        let all : Agree texts others (verdict_over texts main arrival).lookups = λ other read. agree unread other (rw is read) (name_eq name other) refl in
        is ∙ sym (frame texts others main arrival all)

pub due-marked : IsFramed → (site : Site) (scripts : List (ScriptName × List ℕ)) (name : ScriptName) (es : List (List ℕ × MessageEntry))
    → ((other : ScriptName) → name_eq name other ≡ false → text_at site.scripts other ≡ text_at scripts other)
    → KeepsDue (verdict_by site) es → KeepsDue (verdict_by (with_scripts site scripts)) (marked name es)
unfolding KeepsDue
due-marked frame site scripts name [] alike kept = tt
due-marked frame site scripts name (e ∷ es) alike kept = (
  still_due frame (text_at site.scripts) (text_at scripts) site.main (record { message = e.1.message; envelope = site.envelope; own = e.1.addresses; profile = site.profile }) name e.1.kept alike kept.0,
  due-marked frame site scripts name es alike kept.1,
)

-- a verdict that is due and that a mark leaves is still due
kept_due : (due : Verdict) (name : ScriptName) (kept : Option Verdict) → IfSome kept (λ verdict. verdict ≡ due) → IfSome (kept_without name kept) (λ verdict. verdict ≡ due)
kept_due due name None is = tt
kept_due due name (Some verdict) is = by (is_looked_up name verdict.lookups)
  where
    by : (b : Bool) → IfSome (cond b None (Some verdict)) (λ verdict. verdict ≡ due)
    by true = tt
    by false = is

due-kept : (due : Sample → Verdict) (name : ScriptName) (es : List (List ℕ × MessageEntry)) → KeepsDue due es → KeepsDue due (marked name es)
unfolding KeepsDue
due-kept due name [] kept = tt
due-kept due name (e ∷ es) kept = (kept_due (due (sample_of e.1)) name e.1.kept kept.0, due-kept due name es kept.1)

pub messages-marked : (name : ScriptName) (es : List (List ℕ × MessageEntry)) → messages_of (marked name es) ≡ messages_of es
unfolding messages_of
messages-marked name [] = refl
messages-marked name (e ∷ es) = ap (λ l. (e.0, sample_of e.1) ∷ l) (messages-marked name es)

-- MARKS FOR ALL

abbrev pub all_marked : List (List ℕ × MessageEntry) → List (List ℕ × MessageEntry)
all_marked es = map (λ e. (e.0, forgotten e.1)) es

pub tells-all_marked : (test : List ℕ × Sample → Bool) (es : List (List ℕ × MessageEntry)) → Tells (λ m. true || test m) (all_marked es)
tells-all_marked test [] = tt
tells-all_marked test (e ∷ es) = (refl, tells-all_marked test es)

pub due-all_marked : (due : Sample → Verdict) (es : List (List ℕ × MessageEntry)) → KeepsDue due (all_marked es)
unfolding KeepsDue
due-all_marked due [] = tt
due-all_marked due (e ∷ es) = (tt, due-all_marked due es)

pub messages-all_marked : (es : List (List ℕ × MessageEntry)) → messages_of (all_marked es) ≡ messages_of es
unfolding messages_of
messages-all_marked [] = refl
messages-all_marked (e ∷ es) = ap (λ l. (e.0, sample_of e.1) ∷ l) (messages-all_marked es)

-- AN ENTRY THAT IS PUT

-- A test that says which entries are stale still does with an id added. The id is the same as one
-- that no entry has.
apart_from : (id other : List ℕ) (test : List ℕ × Sample → Bool) (es : List (List ℕ × MessageEntry)) → pointwise nat_eq id other ≡ true → AllByRecursion (λ k. pointwise nat_eq other k ≡ false) (keys_of es) → Tells test es → Tells (λ m. pointwise nat_eq id m.0 || test m) es
apart_from id other test [] is apart tells = tt
apart_from id other test (e ∷ es) is apart tells =
    let here : pointwise nat_eq id e.0 ≡ false = rw (is_id id other is) apart.0 in
    (or_false (pointwise nat_eq id e.0) (test (e.0, sample_of e.1)) here ∙ tells.0, apart_from id other test es is apart.1 tells.1)

pub tells-put : (id : List ℕ) (sample : Sample) (test : List ℕ × Sample → Bool) (es : List (List ℕ × MessageEntry)) → IsDistinct (pointwise nat_eq) (keys_of es) → Tells test es → Tells (λ m. pointwise nat_eq id m.0 || test m) (ordered.insert_entry (pointwise nat_eq) es id (fresh_entry sample))
tells-put id sample test [] distinct tells = (or_true (pointwise nat_eq id id) (test (id, sample_of (fresh_entry sample))) (same_id id), tt)
tells-put id sample test (e ∷ es) distinct tells =
    by (pointwise nat_eq id e.0) refl (IsDistinct-head (pointwise nat_eq) e.0 (keys_of es) distinct) (tells-put id sample test es (IsDistinct-tail (pointwise nat_eq) e.0 (keys_of es) distinct) tells.1)
  where
    by : (b : Bool) → pointwise nat_eq id e.0 ≡ b → AllByRecursion (λ k. pointwise nat_eq e.0 k ≡ false) (keys_of es) → Tells (λ m. pointwise nat_eq id m.0 || test m) (ordered.insert_entry (pointwise nat_eq) es id (fresh_entry sample))
        → Tells (λ m. pointwise nat_eq id m.0 || test m) (if b then (e.0, fresh_entry sample) ∷ es else e ∷ ordered.insert_entry (pointwise nat_eq) es id (fresh_entry sample))
    by true is apart rest = (or_true (pointwise nat_eq id e.0) (test (e.0, sample_of (fresh_entry sample))) is, apart_from id e.0 test es is apart tells.1)
    by false is apart rest = (or_false (pointwise nat_eq id e.0) (test (e.0, sample_of e.1)) is ∙ tells.0, rest)

pub due-put : (due : Sample → Verdict) (id : List ℕ) (sample : Sample) (es : List (List ℕ × MessageEntry)) → KeepsDue due es → KeepsDue due (ordered.insert_entry (pointwise nat_eq) es id (fresh_entry sample))
unfolding KeepsDue
due-put due id sample [] kept = (tt, tt)
due-put due id sample (e ∷ es) kept = by (pointwise nat_eq id e.0) (due-put due id sample es kept.1)
  where
    by : (b : Bool) → KeepsDue due (ordered.insert_entry (pointwise nat_eq) es id (fresh_entry sample)) → KeepsDue due (if b then (e.0, fresh_entry sample) ∷ es else e ∷ ordered.insert_entry (pointwise nat_eq) es id (fresh_entry sample))
    by true rest = (tt, kept.1)
    by false rest = (kept.0, rest)

-- AN ENTRY THAT IS REMOVED

pub tells-removed : (at : List ℕ → Bool) (test : List ℕ × Sample → Bool) (es : List (List ℕ × MessageEntry)) → Tells test es → Tells (λ m. false || test m) (remove_entry at es)
tells-removed at test [] tells = tt
tells-removed at test (e ∷ es) tells = by (at e.0) (tells-removed at test es tells.1)
  where
    by : (b : Bool) → Tells (λ m. false || test m) (remove_entry at es) → Tells (λ m. false || test m) (cond b es (e ∷ remove_entry at es))
    by true rest = tells.1
    by false rest = (tells.0, rest)

pub due-removed : (due : Sample → Verdict) (at : List ℕ → Bool) (es : List (List ℕ × MessageEntry)) → KeepsDue due es → KeepsDue due (remove_entry at es)
unfolding KeepsDue
due-removed due at [] kept = tt
due-removed due at (e ∷ es) kept = by (at e.0) (due-removed due at es kept.1)
  where
    by : (b : Bool) → KeepsDue due (remove_entry at es) → KeepsDue due (cond b es (e ∷ remove_entry at es))
    by true rest = kept.1
    by false rest = (kept.0, rest)

-- AN ENTRY OF WHICH A TEXT IS EXPECTED

abbrev expecting : Option (List ℕ) → MessageEntry → MessageEntry
expecting expected = entry_with (own.Expected expected)

tells-expecting : (id : List ℕ) (expected : Option (List ℕ)) (ids : List (List ℕ)) (es : List (List ℕ × MessageEntry)) → Tells (λ m. is_among m.0 ids) es → Tells (λ m. false || is_among m.0 ids) (changed id (expecting expected) es)
tells-expecting id expected ids [] tells = tt
tells-expecting id expected ids (e ∷ es) tells = by (pointwise nat_eq id e.0) (tells-expecting id expected ids es tells.1)
  where
    by : (b : Bool) → Tells (λ m. false || is_among m.0 ids) (changed id (expecting expected) es) → Tells (λ m. false || is_among m.0 ids) (if b then (e.0, expecting expected e.1) ∷ es else e ∷ changed id (expecting expected) es)
    by true rest = tells
    by false rest = (tells.0, rest)

-- the due verdicts don't depend on the expected texts
abbrev pub IsBlind : (Sample → Verdict) → Type 0
IsBlind due = (sample : Sample) (expected : Option (List ℕ)) → due (record sample { expected = expected }) ≡ due sample

due-expecting : (due : Sample → Verdict) → IsBlind due → (id : List ℕ) (expected : Option (List ℕ)) (es : List (List ℕ × MessageEntry)) → KeepsDue due es → KeepsDue due (changed id (expecting expected) es)
unfolding KeepsDue
due-expecting due blind id expected [] kept = tt
due-expecting due blind id expected (e ∷ es) kept = by (pointwise nat_eq id e.0) (due-expecting due blind id expected es kept.1)
  where
    by : (b : Bool) → KeepsDue due (changed id (expecting expected) es) → KeepsDue due (if b then (e.0, expecting expected e.1) ∷ es else e ∷ changed id (expecting expected) es)
    by true rest = (subst (λ (v : Verdict). IfSome e.1.kept (λ verdict. verdict ≡ v)) (sym (blind (sample_of e.1) expected)) kept.0, kept.1)
    by false rest = (kept.0, rest)

-- AN ENTRY WITH OTHER ADDRESSES OF ITS OWN

abbrev readdressed : Option Addresses → MessageEntry → MessageEntry
readdressed addresses = entry_with (own.Addresses addresses)

tells-readdressed : (id : List ℕ) (addresses : Option Addresses) (test : List ℕ × Sample → Bool) (es : List (List ℕ × MessageEntry)) → IsDistinct (pointwise nat_eq) (keys_of es) → Tells test es
    → Tells (λ m. pointwise nat_eq id m.0 || test m) (changed id (readdressed addresses) es)
tells-readdressed id addresses test [] distinct tells = tt
tells-readdressed id addresses test (e ∷ es) distinct tells =
    by (pointwise nat_eq id e.0) refl (IsDistinct-head (pointwise nat_eq) e.0 (keys_of es) distinct) (tells-readdressed id addresses test es (IsDistinct-tail (pointwise nat_eq) e.0 (keys_of es) distinct) tells.1)
  where
    by : (b : Bool) → pointwise nat_eq id e.0 ≡ b → AllByRecursion (λ k. pointwise nat_eq e.0 k ≡ false) (keys_of es) → Tells (λ m. pointwise nat_eq id m.0 || test m) (changed id (readdressed addresses) es)
        → Tells (λ m. pointwise nat_eq id m.0 || test m) (if b then (e.0, readdressed addresses e.1) ∷ es else e ∷ changed id (readdressed addresses) es)
    by true is apart rest = (or_true (pointwise nat_eq id e.0) (test (e.0, sample_of (readdressed addresses e.1))) is, apart_from id e.0 test es is apart tells.1)
    by false is apart rest = (or_false (pointwise nat_eq id e.0) (test (e.0, sample_of e.1)) is ∙ tells.0, rest)

due-readdressed : (due : Sample → Verdict) (id : List ℕ) (addresses : Option Addresses) (es : List (List ℕ × MessageEntry)) → KeepsDue due es → KeepsDue due (changed id (readdressed addresses) es)
unfolding KeepsDue
due-readdressed due id addresses [] kept = tt
due-readdressed due id addresses (e ∷ es) kept = by (pointwise nat_eq id e.0) (due-readdressed due id addresses es kept.1)
  where
    by : (b : Bool) → KeepsDue due (changed id (readdressed addresses) es) → KeepsDue due (if b then (e.0, readdressed addresses e.1) ∷ es else e ∷ changed id (readdressed addresses) es)
    by true rest = (tt, kept.1)
    by false rest = (kept.0, rest)

-- AN ENTRY WITH A SETTING

pub due-set : (due : Sample → Verdict) → IsBlind due → (id : List ℕ) (setting : MessageSetting) (es : List (List ℕ × MessageEntry)) → KeepsDue due es → KeepsDue due (changed id (entry_with setting) es)
due-set due blind id (own.Expected expected) es kept = due-expecting due blind id expected es kept
due-set due blind id (own.Addresses addresses) es kept = due-readdressed due id addresses es kept

-- THE KEPT VERDICT

-- the kept verdict of the entry that is found
abbrev pub kept_of : Option MessageEntry → Option Verdict
kept_of None = None
kept_of (Some entry) = entry.kept

pub kept_at : (due : Sample → Verdict) (id : List ℕ) (es : List (List ℕ × MessageEntry)) → IsDistinct (pointwise nat_eq) (keys_of es) → KeepsDue due es
    → kept_of (lookup (pointwise nat_eq id) es) ≡ (if is_among id (stale_of es) then None else option_map due (lookup (pointwise nat_eq id) (messages_of es)))
unfolding KeepsDue stale_of messages_of
kept_at due id [] distinct kept = refl
kept_at due id (e ∷ es) distinct kept =
    by (pointwise nat_eq id e.0) refl (unlisted e.0 es (IsDistinct-head (pointwise nat_eq) e.0 (keys_of es) distinct)) (kept_at due id es (IsDistinct-tail (pointwise nat_eq) e.0 (keys_of es) distinct) kept.1)
  where
    found : (verdict : Option Verdict) → IfSome verdict (λ v. v ≡ due (sample_of e.1)) → is_among id (stale_of es) ≡ false
        → verdict ≡ (if is_among id (cond (is_none verdict) (id ∷ stale_of es) (stale_of es)) then None else Some (due (sample_of e.1)))
    found None is absent = rw (or_true (pointwise nat_eq id id) (is_among id (stale_of es)) (same_id id)) refl
    found (Some verdict) is absent = rw absent (ap (λ v. Some v) is)

    skip : (b : Bool) → pointwise nat_eq id e.0 ≡ false → is_among id (cond b (e.0 ∷ stale_of es) (stale_of es)) ≡ is_among id (stale_of es)
    skip true is = or_false (pointwise nat_eq id e.0) (is_among id (stale_of es)) is
    skip false is = refl

    by : (b : Bool) → pointwise nat_eq id e.0 ≡ b → is_among e.0 (stale_of es) ≡ false
        → kept_of (lookup (pointwise nat_eq id) es) ≡ (if is_among id (stale_of es) then None else option_map due (lookup (pointwise nat_eq id) (messages_of es)))
        → kept_of (cond b (Some e.1) (lookup (pointwise nat_eq id) es)) ≡ (if is_among id (cond (is_stale e.1) (e.0 ∷ stale_of es) (stale_of es)) then None else option_map due (cond b (Some (sample_of e.1)) (lookup (pointwise nat_eq id) (messages_of es))))
    by true is absent rest = rw (← is_id id e.0 is) (found e.1.kept kept.0 (rw (is_id id e.0 is) absent))
    by false is absent rest = rw (skip (is_stale e.1) is) rest

-- the stale ids are those of the messages whose ids are among the stale ones
pub stale-listed : (es : List (List ℕ × MessageEntry)) → IsDistinct (pointwise nat_eq) (keys_of es) → stale_of es ≡ ids_where (λ m. is_among m.0 (stale_of es)) (messages_of es)
stale-listed es distinct = passing _ es (told es distinct)

-- THE STALE MESSAGES AFTER AN EDIT

pub stale-marked : (due : Sample → Verdict) (name : ScriptName) (es : List (List ℕ × MessageEntry)) → KeepsDue due es → IsDistinct (pointwise nat_eq) (keys_of es)
    → stale_of (marked name es) ≡ ids_where (λ m. is_looked_up name (due m.1).lookups || is_among m.0 (stale_of es)) (messages_of (marked name es))
stale-marked due name es kept distinct = passing _ (marked name es) (tells-marked due name (λ m. is_among m.0 (stale_of es)) es kept (told es distinct))

or_assoc : (a b c : Bool) → ((a || b) || c) ≡ (a || (b || c))
or_assoc true b c = refl
or_assoc false b c = refl

pub stale-marked_twice : (due : Sample → Verdict) (from to : ScriptName) (es : List (List ℕ × MessageEntry)) → KeepsDue due es → IsDistinct (pointwise nat_eq) (keys_of es)
    → stale_of (marked from (marked to es))
    ≡ ids_where (λ m. (is_looked_up from (due m.1).lookups || is_looked_up to (due m.1).lookups) || is_among m.0 (stale_of es)) (messages_of (marked from (marked to es)))
stale-marked_twice due from to es kept distinct =
    let first : Tells (λ m. is_looked_up to (due m.1).lookups || is_among m.0 (stale_of es)) (marked to es) = tells-marked due to (λ m. is_among m.0 (stale_of es)) es kept (told es distinct) in
    passing _ (marked from (marked to es))
    (tells_too (λ m. is_looked_up from (due m.1).lookups || (is_looked_up to (due m.1).lookups || is_among m.0 (stale_of es))) _ (marked from (marked to es))
    (λ m. or_assoc (is_looked_up from (due m.1).lookups) (is_looked_up to (due m.1).lookups) (is_among m.0 (stale_of es)))
    (tells-marked due from (λ m. is_looked_up to (due m.1).lookups || is_among m.0 (stale_of es)) (marked to es) (due-kept due to es kept) first))

pub stale-all_marked : (es : List (List ℕ × MessageEntry)) → stale_of (all_marked es) ≡ ids_where (λ m. true || is_among m.0 (stale_of es)) (messages_of (all_marked es))
stale-all_marked es = passing _ (all_marked es) (tells-all_marked (λ m. is_among m.0 (stale_of es)) es)

pub stale-put : (id : List ℕ) (sample : Sample) (es : List (List ℕ × MessageEntry)) → IsDistinct (pointwise nat_eq) (keys_of es)
    → stale_of (ordered.insert_entry (pointwise nat_eq) es id (fresh_entry sample)) ≡ ids_where (λ m. pointwise nat_eq id m.0 || is_among m.0 (stale_of es)) (messages_of (ordered.insert_entry (pointwise nat_eq) es id (fresh_entry sample)))
stale-put id sample es distinct = passing _ (ordered.insert_entry (pointwise nat_eq) es id (fresh_entry sample)) (tells-put id sample (λ m. is_among m.0 (stale_of es)) es distinct (told es distinct))

pub stale-removed : (at : List ℕ → Bool) (es : List (List ℕ × MessageEntry)) → IsDistinct (pointwise nat_eq) (keys_of es)
    → stale_of (remove_entry at es) ≡ ids_where (λ m. false || is_among m.0 (stale_of es)) (messages_of (remove_entry at es))
stale-removed at es distinct = passing _ (remove_entry at es) (tells-removed at (λ m. is_among m.0 (stale_of es)) es (told es distinct))

pub stale-set : (id : List ℕ) (setting : MessageSetting) (es : List (List ℕ × MessageEntry)) → IsDistinct (pointwise nat_eq) (keys_of es)
    → stale_of (changed id (entry_with setting) es) ≡ ids_where (λ m. (is_seen setting && pointwise nat_eq id m.0) || is_among m.0 (stale_of es)) (messages_of (changed id (entry_with setting) es))
stale-set id (own.Expected expected) es distinct = passing _ (changed id (expecting expected) es) (tells-expecting id expected (stale_of es) es (told es distinct))
stale-set id (own.Addresses addresses) es distinct = passing _ (changed id (readdressed addresses) es) (tells-readdressed id addresses (λ m. is_among m.0 (stale_of es)) es distinct (told es distinct))
