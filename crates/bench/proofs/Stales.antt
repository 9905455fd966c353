-- Worked rows of which messages are stale after an edit, and after a report that is out of memory.
use Rattle.std.proofs.Common.{◌≡◌, ℕ, ◌<◌, true, false, List, [], ◌∷◌, length, length-append, None, Some, Result, Ok, Err, nat_lt, refl, ap, codes, arith}
use Rattle.date_text.specs.Zone.{west}
use Rattle.sieve_limits.specs.Limits.{text_limit}
use Rattle.script_names.specs.declared.location.Location.TheVariants.{Personal, Global}
use Rattle.sieve_check.specs.Judgement.{judgement_of, sound, faulty}
use Rattle.sieve_script.specs.Reading.{keep_leaf}
use Rattle.sieve_script.specs.Script.{acts, no_commands}
use Rattle.sieve_check.specs.declared.judged.FaultKind.{FaultKind}
use Rattle.sieve_run.specs.Run.{verdict_of, exec}
use Rattle.script_names.specs.declared.name.ScriptName.{ScriptName}
use Rattle.sieve_profile.specs.Profile.{Profile}
use Rattle.bench.specs.Bench.{RefusedAmong}
use Rattle.bench.specs.Content.{Content, Edit, Sample, after, put_script, put_message, rename_script, remove_script, remove_message, set_for_all, set_for_one}
use Rattle.bench.specs.Stale.{ids_where, stale_after, verdict_on}
use Rattle.bench.specs.declared.fault.EditFault.{EditFault}
use Rattle.bench.specs.declared.setting.MessageSetting.TheVariants as own
use Rattle.bench.specs.declared.setting.Setting.TheVariants as common

abbrev personal : List ℕ → ScriptName
personal name = record { location = Personal; name = name }

abbrev main : ScriptName
main = personal (codes "main")

abbrev x : ScriptName
x = personal (codes "x")

abbrev y : ScriptName
y = personal (codes "y")

-- the global script of the same name is another script
abbrev global_main : ScriptName
global_main = record { location = Global; name = codes "main" }

-- rows under any profile
module _ (profile : Profile) where
  -- two messages under a main script, where there are these scripts
  abbrev bench : List (ScriptName × List ℕ) → Content
  bench scripts = record {
    profile = profile;
    main = Some main;
    envelope = record { from = []; to = []; mailbox = codes "INBOX"; mailboxes = []; clock = None };
    scripts = scripts;
    messages = (codes "m1", record { octets = codes "Subject: one\n\n"; expected = None; addresses = None }) ∷ (codes "m2", record { octets = codes "Subject: two\n\n"; expected = Some (codes "keep\n"); addresses = None }) ∷ [];
  }

  -- the stale messages after an edit: where it is refused, those that were stale
  abbrev made_or_old : Result Content EditFault → Content → Edit → List (List ℕ) → List (List ℕ)
  made_or_old (Ok new) old edit stale = stale_after old edit stale new
  made_or_old (Err fault) old edit stale = stale

  abbrev marks : Content → Edit → List (List ℕ) → List (List ℕ)
  marks content edit stale = made_or_old (after content edit) content edit stale

  -- the messages that an edit makes stale where none was
  abbrev touched : Content → Edit → List (List ℕ)
  touched content edit = marks content edit []

  -- the ids of both messages, and of the first
  abbrev both : List (List ℕ)
  both = codes "m1" ∷ codes "m2" ∷ []

  abbrev first : List (List ℕ)
  first = codes "m1" ∷ []

  -- THE MAIN SCRIPT IS MISSING

  abbrev missing : Content
  missing = bench ((y, codes "keep;") ∷ [])

  put_missing_row : touched missing (put_script main (codes "keep;")) ≡ both
  unfolding ids_where verdict_of
  put_missing_row = refl

  put_unread_row : touched missing (put_script x (codes "keep;")) ≡ []
  unfolding ids_where verdict_of
  put_unread_row = refl

  -- a rename touches the messages whose runs looked its new name up in vain
  rename_to_missing_row : touched missing (rename_script y main) ≡ both
  unfolding ids_where verdict_of
  rename_to_missing_row = refl

  rename_unread_row : touched missing (rename_script y x) ≡ []
  unfolding ids_where verdict_of
  rename_unread_row = refl

  -- to remove a script that isn't there is refused, and touches no message
  remove_missing_row : touched missing (remove_script main) ≡ []
  unfolding ids_where verdict_of
  remove_missing_row = refl

  -- THE MAIN SCRIPT IS THERE

  -- a bench whose main script has this text
  abbrev present : List ℕ → Content
  present text = bench ((main, text) ∷ (y, codes "keep;") ∷ [])

  -- the run on each message looks the main script up, and no other
  abbrev IsAlone : List ℕ → Type 0
  IsAlone text = (sample : Sample) → (verdict_on (present text) sample).lookups ≡ (main, true) ∷ []

  -- a main script whose text is past the limit, has a fault, or is one keep, looks up no other
  long_row : (text : List ℕ) → nat_lt text_limit (length text) ≡ true → IsAlone text
  unfolding verdict_of
  long_row text long sample = rw long refl

  faulty_row : (text : List ℕ) (line : ℕ) (kind : FaultKind) → nat_lt text_limit (length text) ≡ false → judgement_of profile text ≡ faulty line kind → IsAlone text
  unfolding verdict_of
  faulty_row text line kind short judged sample = rw (short, judged) refl

  keep_row : (text : List ℕ) → nat_lt text_limit (length text) ≡ false → judgement_of profile text ≡ sound (acts (keep_leaf None) 1 no_commands) → IsAlone text
  unfolding verdict_of exec
  keep_row text short judged sample = rw (short, judged) refl

  -- rows where the main script has a text that looks up no other script
  module _ (text : List ℕ) (alone : IsAlone text) where
    -- A script that no run looks up touches no message where it is put, put anew, removed or
    -- renamed. The main script touches all.
    put_row : touched (present text) (put_script x (codes "keep;")) ≡ []
    unfolding ids_where
    put_row = simp alone

    put_again_row : touched (present text) (put_script y []) ≡ []
    unfolding ids_where
    put_again_row = simp alone

    put_global_row : touched (present text) (put_script global_main []) ≡ []
    unfolding ids_where
    put_global_row = simp alone

    put_main_row : touched (present text) (put_script main []) ≡ both
    unfolding ids_where
    put_main_row = simp alone

    remove_main_row : touched (present text) (remove_script main) ≡ both
    unfolding ids_where
    remove_main_row = simp alone

    remove_row : touched (present text) (remove_script y) ≡ []
    unfolding ids_where
    remove_row = simp alone

    rename_row : touched (present text) (rename_script y x) ≡ []
    unfolding ids_where
    rename_row = simp alone

    rename_main_row : touched (present text) (rename_script main x) ≡ both
    unfolding ids_where
    rename_main_row = simp alone

    -- A refused edit leaves the stale messages. Such are a rename to a name that is taken, and the
    -- removal of a message that isn't there.
    refused_rename_row : marks (present text) (rename_script y main) first ≡ first
    unfolding ids_where
    refused_rename_row = refl

    refused_remove_row : marks (present text) (remove_message (codes "m3")) first ≡ first
    unfolding ids_where
    refused_remove_row = refl

    -- a message that is put is touched alone, a new one too
    message_row : touched (present text) (put_message (codes "m2") []) ≡ codes "m2" ∷ []
    unfolding ids_where
    message_row = refl

    new_message_row : touched (present text) (put_message (codes "m3") []) ≡ codes "m3" ∷ []
    unfolding ids_where
    new_message_row = refl

    -- a message that was stale stays stale where another is put
    stays_row : marks (present text) (put_message (codes "m2") []) first ≡ both
    unfolding ids_where
    stays_row = refl

    -- A message that was stale is stale no more where it is removed. It stays stale where another
    -- is removed.
    remove_message_row : marks (present text) (remove_message (codes "m1")) first ≡ []
    unfolding ids_where
    remove_message_row = refl

    remove_other_message_row : marks (present text) (remove_message (codes "m2")) first ≡ first
    unfolding ids_where
    remove_other_message_row = refl

    -- an edit of the settings touches all messages
    mailbox_row : touched (present text) (set_for_all (common.Mailbox (codes "Inbox2"))) ≡ both
    unfolding ids_where
    mailbox_row = refl

    envelope_row : touched (present text) (set_for_all (common.Addresses (record { from = codes "a@b.example"; to = [] }))) ≡ both
    unfolding ids_where
    envelope_row = refl

    set_main_row : touched (present text) (set_for_all (common.Main (Some y))) ≡ both
    unfolding ids_where
    set_main_row = refl

    -- the edit that names the main script touches all messages even where the main script stays
    same_main_row : touched (present text) (set_for_all (common.Main (Some main))) ≡ both
    unfolding ids_where
    same_main_row = refl

    clear_main_row : touched (present text) (set_for_all (common.Main None)) ≡ both
    unfolding ids_where
    clear_main_row = refl

    -- an edit of an expected text touches no message, and leaves the stale messages
    expected_row : touched (present text) (set_for_one (codes "m1") (own.Expected (Some (codes "discard\n")))) ≡ []
    unfolding ids_where
    expected_row = refl

    expected_stays_row : marks (present text) (set_for_one (codes "m1") (own.Expected (Some (codes "discard\n")))) first ≡ first
    unfolding ids_where
    expected_stays_row = refl

    not_expected_row : touched (present text) (set_for_one (codes "m2") (own.Expected None)) ≡ []
    unfolding ids_where
    not_expected_row = refl

    -- an edit of the list of mailboxes touches all messages
    mailboxes_row : touched (present text) (set_for_all (common.Mailboxes (codes "Lists\n"))) ≡ both
    unfolding ids_where
    mailboxes_row = refl

    -- an edit of the clock touches all messages, also where there is none before and after
    clock_row : touched (present text) (set_for_all (common.Clock (Some (record { seconds = 0; zone = west 0 })))) ≡ both
    unfolding ids_where
    clock_row = refl

    no_clock_row : touched (present text) (set_for_all (common.Clock None)) ≡ both
    unfolding ids_where
    no_clock_row = refl

    -- an edit of a message's own addresses touches that message alone, also where it has none
    -- before and after
    own_row : touched (present text) (set_for_one (codes "m2") (own.Addresses (Some (record { from = codes "a@b.example"; to = [] })))) ≡ codes "m2" ∷ []
    unfolding ids_where
    own_row = refl

    no_own_row : touched (present text) (set_for_one (codes "m1") (own.Addresses None)) ≡ first
    unfolding ids_where
    no_own_row = refl

    own_stays_row : marks (present text) (set_for_one (codes "m2") (own.Addresses (Some (record { from = []; to = [] })))) first ≡ both
    unfolding ids_where
    own_stays_row = refl

    refused_own_row : marks (present text) (set_for_one (codes "m3") (own.Addresses (Some (record { from = []; to = [] })))) first ≡ first
    unfolding ids_where
    refused_own_row = refl

-- A REPORT THAT IS OUT OF MEMORY

-- a report that is out of memory can't leave nothing stale
left_row : (old : List (List ℕ)) (runs later : ℕ) → RefusedAmong old [] runs later → ⊥
left_row old runs later refused = omega (arith, refused.more)

-- a report that is out of memory can't make more messages stale
more_row : (old new : List (List ℕ)) (runs later : ℕ) → length old < length new → RefusedAmong old new runs later → ⊥
more_row old new runs later more refused = omega (arith, ap length refused.whole, length-append refused.done new)

-- no report is out of memory where nothing was stale
none_row : (new : List (List ℕ)) (runs later : ℕ) → RefusedAmong [] new runs later → ⊥
none_row new runs later refused = omega (arith, ap length refused.whole, length-append refused.done new, refused.more)
