-- The model of a message's entry in a bench.
use Rattle.std.specs.Prelude.{◌≡◌, ⊤, ℕ, Bool, false, List, [], ◌∷◌, map, nat_eq, Option, None, Some, is_none, is_some, cond, IfSome}
use Rattle.std.specs.Map.{lookup}
use Rattle.std.specs.Option.{option_map}
use Rattle.indexmap.specs.IndexMap as ordered
use lib.Pointwise.{pointwise}
use Rattle.script_names.specs.declared.name.ScriptName.{ScriptName}
use Rattle.sieve_run.specs.Meter.{next_run}
use Rattle.sieve_run.specs.Run.{is_looked_up}
use Rattle.sieve_verdict.specs.Verdict.{Verdict}
use Rattle.bench.specs.Content.{Sample, put_over}
use Rattle.bench.specs.Report.{JudgedMessage, is_unlike}
use Rattle.bench.specs.declared.entry.MessageEntry.{MessageEntry}
use Rattle.bench.specs.declared.setting.MessageSetting.{MessageSetting}
use Rattle.bench.specs.declared.setting.MessageSetting.TheVariants as own

-- the message of an entry, without the kept verdict
abbrev pub sample_of : MessageEntry → Sample
sample_of entry = record { octets = entry.message; expected = entry.expected; addresses = entry.addresses }

-- the messages of entries, in their order, by their ids
unfoldable pub messages_of : List (List ℕ × MessageEntry) → List (List ℕ × Sample)
messages_of entries = map (λ e. (e.0, sample_of e.1)) entries

-- whether an entry's message is stale: no verdict is kept
abbrev pub is_stale : MessageEntry → Bool
is_stale entry = is_none entry.kept

-- the ids of the stale messages, in their order
unfoldable pub stale_of : List (List ℕ × MessageEntry) → List (List ℕ)
stale_of [] = []
stale_of (e ∷ es) = cond (is_stale e.1) (e.0 ∷ stale_of es) (stale_of es)

-- each verdict that is kept is the due one
unfoldable pub KeepsDue : (Sample → Verdict) → List (List ℕ × MessageEntry) → Type 0
KeepsDue due [] = ⊤
KeepsDue due (e ∷ es) = IfSome e.1.kept (λ verdict. verdict ≡ due (sample_of e.1)) × KeepsDue due es

-- an entry that is marked
abbrev pub forgotten : MessageEntry → MessageEntry
forgotten entry = record entry { kept = None }

-- the verdict that is kept when a name changes
abbrev pub kept_without : ScriptName → Option Verdict → Option Verdict
kept_without name None = None
kept_without name (Some verdict) = cond (is_looked_up name verdict.lookups) None (Some verdict)

-- an entry that is marked if its run looked the name up
abbrev pub unread : ScriptName → MessageEntry → MessageEntry
unread name entry = record entry { kept = kept_without name entry.kept }

-- the verdict that is kept after a report
abbrev pub kept_or : Verdict → Option Verdict → Option Verdict
kept_or due None = Some due
kept_or due (Some verdict) = Some verdict

-- an entry after a report
abbrev pub refreshed : (Sample → Verdict) → MessageEntry → MessageEntry
refreshed due entry = record entry { kept = kept_or (due (sample_of entry)) entry.kept }

-- the number of runs after an entry is refreshed
abbrev pub runs_at : MessageEntry → ℕ → ℕ
runs_at entry runs = cond (is_stale entry) (next_run runs) runs

-- a message with the verdict, where it is kept, before others
abbrev pub judged_before : List ℕ → Sample → Option Verdict → List JudgedMessage → List JudgedMessage
judged_before id sample None judged = judged
judged_before id sample (Some verdict) judged = record { id = id; addresses = sample.addresses; verdict = verdict; expected = sample.expected } ∷ judged

-- the messages with the verdicts that are kept, in their order
unfoldable pub judged_of : List (List ℕ × MessageEntry) → List JudgedMessage
judged_of [] = []
judged_of (e ∷ es) = judged_before e.0 (sample_of e.1) e.1.kept (judged_of es)

-- a stale entry
abbrev pub fresh_entry : Sample → MessageEntry
fresh_entry sample = record { message = sample.octets; expected = sample.expected; addresses = sample.addresses; kept = None }

-- the message of an id, where it is there
abbrev pub sample_in : List (List ℕ × MessageEntry) → List ℕ → Option Sample
sample_in entries id = option_map sample_of (lookup (pointwise nat_eq id) entries)

-- the entries with a message put at an id, over the one that is there
abbrev pub put_entry : List ℕ → List ℕ → List (List ℕ × MessageEntry) → List (List ℕ × MessageEntry)
put_entry id message entries = ordered.insert_entry (pointwise nat_eq) entries id (fresh_entry (put_over message (sample_in entries id)))

-- an entry with other octets, which is stale
abbrev pub renewed : List ℕ → MessageEntry → MessageEntry
renewed message entry = record entry { message = message; kept = None }

-- an entry with a setting of its message, which is stale where a run sees that
abbrev pub entry_with : MessageSetting → MessageEntry → MessageEntry
entry_with (own.Expected expected) entry = record entry { expected = expected }
entry_with (own.Addresses addresses) entry = record entry { addresses = addresses; kept = None }

-- whether the verdict that is kept has an error
abbrev pub has_error : Option Verdict → Bool
has_error None = false
has_error (Some verdict) = is_some verdict.error

-- whether a verdict is kept that is not as it is expected to be
abbrev pub disagrees : (mailbox : List ℕ) → Option (List ℕ) → Option Verdict → Bool
disagrees mailbox expected None = false
disagrees mailbox expected (Some verdict) = is_unlike mailbox verdict expected
