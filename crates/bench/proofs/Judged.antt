-- The verdicts that are kept, in the order of their messages.
use Rattle.std.proofs.Common.{◌≡◌, ℕ, suc, ◌+◌, zero-add, List, [], ◌∷◌, ◌++◌, length, true, false, ◌||◌, cond, if◌then◌else◌, Option, None, Some, IfSome, is_none, is_some, refl, sym, ap, ◌∙◌, append-nil, count_by}
use Rattle.std.proofs.lemmas.Grind.{flat_map-append}
use Rattle.std.proofs.lemmas.List.Sums.{sum_by-cons}
use Rattle.std.specs.List.{flat_map, list_any}
use Rattle.sieve_verdict.specs.Verdict.{Verdict}
use Rattle.bench.specs.Content.{Content}
use Rattle.bench.specs.Report.{JudgedMessage, Site, error_count, is_unlike, report_text, report_with, site_of, unexpected_count, verdict_by, verdicts}
use Rattle.bench.specs.Test.{is_clean, is_clean_with}
use Rattle.bench.specs.declared.entry.MessageEntry.{MessageEntry}
use Rattle.bench.specs.view.Entry.{disagrees, has_error, judged_before, judged_of, messages_of, sample_of, stale_of, KeepsDue}

-- where no message is stale, the verdicts that are kept are the verdicts on all messages
pub all_judged : (site : Site) (es : List (List ℕ × MessageEntry)) → KeepsDue (verdict_by site) es → stale_of es ≡ [] → judged_of es ≡ verdicts site (messages_of es)
unfolding KeepsDue stale_of judged_of messages_of verdicts
all_judged site [] kept none = refl
all_judged site (e ∷ es) kept none = by e.1.kept kept.0 none (λ h. all_judged site es kept.1 h)
  where
    judged_now : Verdict → JudgedMessage
    judged_now verdict = record { id = e.0; addresses = e.1.addresses; verdict = verdict; expected = e.1.expected }

    by : (found : Option Verdict) → IfSome found (λ verdict. verdict ≡ verdict_by site (sample_of e.1)) → cond (is_none found) (e.0 ∷ stale_of es) (stale_of es) ≡ []
        → (stale_of es ≡ [] → judged_of es ≡ verdicts site (messages_of es))
        → judged_before e.0 (sample_of e.1) found (judged_of es) ≡ judged_now (verdict_by site (sample_of e.1)) ∷ verdicts site (messages_of es)
    by None is none more = absurd cc
    by (Some verdict) is none more = ap (λ v. judged_now v ∷ judged_of es) is ∙ ap (λ l. judged_now (verdict_by site (sample_of e.1)) ∷ l) (more none)

-- where no message is stale, the report of the kept verdicts is the report of the content
pub report_is : (content : Content) (site : Site) (es : List (List ℕ × MessageEntry)) → site ≡ site_of content → messages_of es ≡ content.messages → KeepsDue (verdict_by site) es → stale_of es ≡ []
    → report_with site (judged_of es) ≡ report_text content
report_is content site es s same kept none =
    ap (report_with site) (all_judged site es kept none ∙ ap (verdicts site) same) ∙ ap (λ (x : Site). report_with x (verdicts x content.messages)) s

-- where no message is stale, the kept verdicts are clean where the content is
pub clean_is : (content : Content) (site : Site) (es : List (List ℕ × MessageEntry)) → site ≡ site_of content → messages_of es ≡ content.messages → KeepsDue (verdict_by site) es → stale_of es ≡ []
    → is_clean_with site (judged_of es) ≡ is_clean content
unfolding is_clean
clean_is content site es s same kept none =
    ap (is_clean_with site) (all_judged site es kept none ∙ ap (verdicts site) same) ∙ ap (λ (x : Site). is_clean_with x (verdicts x content.messages)) s

-- Where no message is stale, all are judged. As many are judged with an error as entries keep a
-- verdict with an error.
pub judged-all : (es : List (List ℕ × MessageEntry)) → stale_of es ≡ [] → length (judged_of es) ≡ length es
unfolding stale_of judged_of
judged-all [] none = refl
judged-all (e ∷ es) none = by e.1.kept none (judged-all es)
  where
    by : (kept : Option Verdict) → cond (is_none kept) (e.0 ∷ stale_of es) (stale_of es) ≡ [] → (stale_of es ≡ [] → length (judged_of es) ≡ length es) → length (judged_before e.0 (sample_of e.1) kept (judged_of es)) ≡ length (e ∷ es)
    by None none rest = absurd cc
    by (Some verdict) none rest = ap suc (rest none)

pub judged-errors : (es : List (List ℕ × MessageEntry)) → error_count (judged_of es) ≡ count_by (λ e. has_error e.1.kept) es
unfolding judged_of
judged-errors [] = refl
judged-errors (e ∷ es) = by e.1.kept (judged-errors es) ∙ sym (sum_by-cons (λ e. cond (has_error e.1.kept) 1 0) e es)
  where
    by : (kept : Option Verdict) → error_count (judged_of es) ≡ count_by (λ e. has_error e.1.kept) es → error_count (judged_before e.0 (sample_of e.1) kept (judged_of es)) ≡ cond (has_error kept) 1 0 + count_by (λ e. has_error e.1.kept) es
    by None rest = rest ∙ sym (zero-add (count_by (λ e. has_error e.1.kept) es))
    by (Some verdict) rest = sum_by-cons (λ (j : JudgedMessage). cond (is_some j.verdict.error) 1 0) (record { id = e.0; addresses = e.1.addresses; verdict = verdict; expected = e.1.expected }) (judged_of es) ∙ ap (λ n. cond (is_some verdict.error) 1 0 + n) rest

-- the kept verdicts of some entries are the first entry's, and those of the others
judged_cut : (e : List ℕ × MessageEntry) (es : List (List ℕ × MessageEntry)) → judged_of (e ∷ es) ≡ judged_of (e ∷ []) ++ judged_of es
unfolding judged_of
judged_cut e es = by e.1.kept
  where
    by : (kept : Option Verdict) → judged_before e.0 (sample_of e.1) kept (judged_of es) ≡ judged_before e.0 (sample_of e.1) kept [] ++ judged_of es
    by None = refl
    by (Some verdict) = refl

pub lines_cut : (lines : JudgedMessage → List ℕ) (all es : List (List ℕ × MessageEntry)) (e : List ℕ × MessageEntry) → all ≡ e ∷ es → flat_map lines (judged_of all) ≡ flat_map lines (judged_of (e ∷ [])) ++ flat_map lines (judged_of es)
lines_cut lines all es e cut = ap (λ l. flat_map lines (judged_of l)) cut ∙ ap (flat_map lines) (judged_cut e es) ∙ flat_map-append lines (judged_of (e ∷ [])) (judged_of es)

-- the lines of one entry are those of its kept verdict
pub one_lines : (lines : JudgedMessage → List ℕ) (id : List ℕ) (entry : MessageEntry) (verdict : Verdict) → entry.kept ≡ Some verdict → flat_map lines (judged_of ((id, entry) ∷ [])) ≡ lines (record { id = id; addresses = entry.addresses; verdict = verdict; expected = entry.expected })
unfolding judged_of
one_lines lines id entry verdict is = ap (λ k. flat_map lines (judged_before id (sample_of entry) k [])) is ∙ append-nil (lines (record { id = id; addresses = entry.addresses; verdict = verdict; expected = entry.expected }))

pub judged_one : (id : List ℕ) (entry : MessageEntry) (kept : Option Verdict) → entry.kept ≡ kept → judged_of ((id, entry) ∷ []) ≡ judged_before id (sample_of entry) kept []
unfolding judged_of
judged_one id entry kept is = ap (λ k. judged_before id (sample_of entry) k []) is

-- As many verdicts are not as expected as entries keep one that isn't. Where no message is stale, a
-- text is expected of a verdict where one is of an entry.
pub judged-unlike : (mailbox : List ℕ) (es : List (List ℕ × MessageEntry)) → count_by (λ j. is_unlike mailbox j.verdict j.expected) (judged_of es) ≡ count_by (λ e. disagrees mailbox e.1.expected e.1.kept) es
unfolding judged_of
judged-unlike mailbox [] = refl
judged-unlike mailbox (e ∷ es) = by e.1.kept (judged-unlike mailbox es) ∙ sym (sum_by-cons (λ e. cond (disagrees mailbox e.1.expected e.1.kept) 1 0) e es)
  where
    by : (kept : Option Verdict) → count_by (λ j. is_unlike mailbox j.verdict j.expected) (judged_of es) ≡ count_by (λ e. disagrees mailbox e.1.expected e.1.kept) es
        → count_by (λ j. is_unlike mailbox j.verdict j.expected) (judged_before e.0 (sample_of e.1) kept (judged_of es)) ≡ cond (disagrees mailbox e.1.expected kept) 1 0 + count_by (λ e. disagrees mailbox e.1.expected e.1.kept) es
    by None rest = rest ∙ sym (zero-add (count_by (λ e. disagrees mailbox e.1.expected e.1.kept) es))
    by (Some verdict) rest =
        sum_by-cons (λ (j : JudgedMessage). cond (is_unlike mailbox j.verdict j.expected) 1 0) (record { id = e.0; addresses = e.1.addresses; verdict = verdict; expected = e.1.expected }) (judged_of es)
        ∙ ap (λ n. cond (is_unlike mailbox verdict e.1.expected) 1 0 + n) rest

pub judged-expected : (es : List (List ℕ × MessageEntry)) → stale_of es ≡ [] → list_any (λ j. is_some j.expected) (judged_of es) ≡ list_any (λ e. is_some e.1.expected) es
unfolding stale_of judged_of
judged-expected [] none = refl
judged-expected (e ∷ es) none = by e.1.kept none (judged-expected es)
  where
    by : (kept : Option Verdict) → cond (is_none kept) (e.0 ∷ stale_of es) (stale_of es) ≡ [] → (stale_of es ≡ [] → list_any (λ j. is_some j.expected) (judged_of es) ≡ list_any (λ e. is_some e.1.expected) es)
        → list_any (λ j. is_some j.expected) (judged_before e.0 (sample_of e.1) kept (judged_of es)) ≡ (is_some e.1.expected || list_any (λ e. is_some e.1.expected) es)
    by None none rest = absurd cc
    by (Some verdict) none rest = ap (λ b. is_some e.1.expected || b) (rest none)

-- Where no message is stale, the last line may have a number of unexpected verdicts. It has one
-- where a text is expected of some message, and else none.
pub unexpected_some : (mailbox : List ℕ) (es : List (List ℕ × MessageEntry)) → stale_of es ≡ [] → list_any (λ e. is_some e.1.expected) es ≡ true → unexpected_count mailbox (judged_of es) ≡ Some (count_by (λ e. disagrees mailbox e.1.expected e.1.kept) es)
unfolding unexpected_count
unexpected_some mailbox es none some =
    ap (λ b. if b then Some (count_by (λ j. is_unlike mailbox j.verdict j.expected) (judged_of es)) else None) (judged-expected es none ∙ some) ∙ ap (λ n. Some n) (judged-unlike mailbox es)

pub unexpected_none : (mailbox : List ℕ) (es : List (List ℕ × MessageEntry)) → stale_of es ≡ [] → list_any (λ e. is_some e.1.expected) es ≡ false → unexpected_count mailbox (judged_of es) ≡ None
unfolding unexpected_count
unexpected_none mailbox es none absent =
    ap (λ b. if b then Some (count_by (λ j. is_unlike mailbox j.verdict j.expected) (judged_of es)) else None) (judged-expected es none ∙ absent)
