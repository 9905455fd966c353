-- The content after edits in turn, and the facts of the edits of a job.
use Rattle.octets.specs.Octet.{is_among}
use Rattle.std.proofs.Common.{◌≡◌, ℕ, ◌+◌, ◌<◌, Bool, true, false, ◌||◌, if◌then◌else◌, List, [], ◌∷◌, length, drop, get_or, map, fold, Option, None, Some, Result, Ok, Err, IfOk, OnOk, refl, sym, ap, ◌∙◌, subst}
use Rattle.std.proofs.lemmas.List.{drop_more}
use Rattle.sieve_delivery.specs.declared.envelope.Envelope.{Envelope}
use Rattle.script_names.specs.declared.name.ScriptName.{ScriptName}
use Rattle.bench.specs.Bench.{BenchState, Makes}
use Rattle.bench.specs.Content.{Content, Edit, Sample, after, put_message, Refuses, unless, script_refusal, message_refusal, with_message, set_for_all, setting_refusal}
use Rattle.bench.specs.Edits.{envelope_edits}
use Rattle.bench.specs.Stale.{ids_where, touches}
use Rattle.bench.specs.Test.{after_all, put_of, then_edit}
use Rattle.bench.specs.declared.fault.EditFault.{EditFault}
use Rattle.bench.specs.declared.setting.Setting.{Setting}
use Rattle.bench.specs.declared.setting.Setting.TheVariants as common
use Rattle.bench.specs.declared.fault.EditFault.TheVariants.{TooLarge, NoSuchScript, NameTaken, NoSuchMessage, Full, NoMemory}
use Rattle.bench.specs.declared.test_job.TestScript.{TestScript}
use Rattle.bench.specs.view.Refused.{Refused}
use Rattle.bench.proofs.Names.{same_id}

-- A REFUSAL STAYS

-- further edits make nothing of a refusal
pub refusal_stays : (refusal : EditFault) (edits : List Edit) → fold then_edit (Err refusal) edits ≡ Err refusal
refusal_stays refusal [] = refl
refusal_stays refusal (edit ∷ edits) = refusal_stays refusal edits

-- a fault of some edits is also a fault of these and further edits
pub still_refused : (fault : EditFault) (made : Result Content EditFault) (edits : List Edit) → Refused fault made → Refused fault (fold then_edit made edits)
still_refused NoSuchScript made edits refused = refused
still_refused NameTaken made edits refused = refused
still_refused NoSuchMessage made edits refused = refused
still_refused Full made edits refused = ap (λ r. fold then_edit r edits) refused ∙ refusal_stays Full edits
still_refused TooLarge made edits refused = ap (λ r. fold then_edit r edits) refused ∙ refusal_stays TooLarge edits
still_refused NoMemory made edits refused = tt

-- THE SCRIPTS

-- a put of a script is refused only for its size, for too many scripts, or when out of memory
pub put_refused_for : (too_large full : Bool) (content : Content) (fault : EditFault)
    → Refuses (unless (if too_large then Some TooLarge else if full then Some Full else None) content) (Err fault)
    → Refused fault (unless (if too_large then Some TooLarge else if full then Some Full else None) content)
put_refused_for true full content fault is = subst (λ f. Refused f (Err TooLarge)) (sym is) refl
put_refused_for false true content fault is = subst (λ f. Refused f (Err Full)) (sym is) refl
put_refused_for false false content fault is = subst (λ f. Refused f (Ok content)) (sym is) tt

-- to put the scripts from one on is to put that one, and then those after it
puts_cut : (made : Result Content EditFault) (scripts : List TestScript) (i : ℕ) (script : TestScript) → i < length scripts → script ≡ get_or scripts i script
    → fold then_edit made (map put_of (drop i scripts)) ≡ fold then_edit (then_edit made (put_of script)) (map put_of (drop (i + 1) scripts))
puts_cut made scripts i script within is =
    ap (λ l. fold then_edit made (map put_of l)) (drop_more scripts i script within)
    ∙ ap (λ s. fold then_edit (then_edit made (put_of s)) (map put_of (drop (i + 1) scripts))) (sym is)

-- where the next script is put, those after it have the result that all are to have
pub put_next : (old new : Content) (scripts : List TestScript) (i : ℕ) (script : TestScript) (all : Result Content EditFault) → i < length scripts → script ≡ get_or scripts i script
    → after_all old (map put_of (drop i scripts)) ≡ all → after old (put_of script) ≡ Ok new → after_all new (map put_of (drop (i + 1) scripts)) ≡ all
put_next old new scripts i script all within is so_far put =
    ap (λ r. fold then_edit r (map put_of (drop (i + 1) scripts))) (sym put) ∙ sym (puts_cut (Ok old) scripts i script within is) ∙ so_far

-- where the next script is refused, so is one of all the scripts, for the same fault
pub put_refused : (content : Content) (scripts : List TestScript) (i : ℕ) (script : TestScript) (fault : EditFault) (all : Result Content EditFault) → i < length scripts → script ≡ get_or scripts i script
    → after_all content (map put_of (drop i scripts)) ≡ all → Refused fault (after content (put_of script)) → Refused fault all
put_refused content scripts i script fault all within is so_far refused =
    subst (Refused fault) (sym (puts_cut (Ok content) scripts i script within is) ∙ so_far)
    (still_refused fault (after content (put_of script)) (map put_of (drop (i + 1) scripts)) refused)

-- THE MESSAGE

-- where an edit made a content, it is the content that the edit was to make
made_is : (refusal : Option EditFault) (content new : Content) → unless refusal content ≡ Ok new → content ≡ new
made_is None content new made = cc
made_is (Some fault) content new made = absurd cc

-- edits that leave no message, unless one of them is refused
abbrev LeavesNone : Result Content EditFault → Type 0
LeavesNone made = IfOk made (λ content. content.messages ≡ [])

kept_none : (refusal : Option EditFault) (content : Content) → content.messages ≡ [] → LeavesNone (unless refusal content)
kept_none None content none = none
kept_none (Some fault) content none = tt

-- edits of settings and of scripts leave no message where there was none
none_set : (made : Result Content EditFault) (setting : Setting) → LeavesNone made → LeavesNone (then_edit made (set_for_all setting))
none_set (Ok content) setting none = kept_none (setting_refusal setting) _ none
none_set (Err refusal) setting none = tt

none_put : (made : Result Content EditFault) (script : TestScript) → LeavesNone made → LeavesNone (then_edit made (put_of script))
none_put (Ok content) script none = kept_none (script_refusal content.scripts script.name script.text) _ none
none_put (Err refusal) script none = tt

none_all_put : (made : Result Content EditFault) (scripts : List TestScript) → LeavesNone made → LeavesNone (fold then_edit made (map put_of scripts))
none_all_put made [] none = none
none_all_put made (script ∷ scripts) none = none_all_put (then_edit made (put_of script)) scripts (none_put made script none)

none_all_set : (made : Result Content EditFault) (settings : List Setting) → LeavesNone made → LeavesNone (fold then_edit made (map set_for_all settings))
none_all_set made [] none = none
none_all_set made (setting ∷ settings) none = none_all_set (then_edit made (set_for_all setting)) settings (none_set made setting none)

-- the settings of an envelope
abbrev settings_of : Envelope → List Setting
settings_of envelope =
    common.Addresses (record { from = envelope.from; to = envelope.to }) ∷ common.Mailbox envelope.mailbox
    ∷ common.Mailboxes envelope.mailboxes ∷ common.Clock envelope.clock ∷ []

pub settings_leave_none : (envelope : Envelope) (old new : Content) → old.messages ≡ [] → after_all old (envelope_edits envelope) ≡ Ok new → new.messages ≡ []
settings_leave_none envelope old new none made = subst LeavesNone made (none_all_set (Ok old) (settings_of envelope) none)

pub scripts_leave_none : (scripts : List TestScript) (old new : Content) → old.messages ≡ [] → after_all old (map put_of scripts) ≡ Ok new → new.messages ≡ []
scripts_leave_none scripts old new none made = subst LeavesNone made (none_all_put (Ok old) scripts none)

-- the edit that names a main script leaves no message where there was none
pub main_leaves_none : (main : Option ScriptName) (old new : Content) → old.messages ≡ [] → after old (set_for_all (common.Main main)) ≡ Ok new → new.messages ≡ []
main_leaves_none main old new none made = ap (λ c. c.messages) (sym (made_is (setting_refusal (common.Main main)) (record old { main = main }) new made)) ∙ none

-- where the only message passes a test, the ids of the messages that pass are its id alone
one_id : (test : List ℕ × Sample → Bool) (id : List ℕ) (sample : Sample) → test (id, sample) ≡ true → ids_where test ((id, sample) ∷ []) ≡ id ∷ []
unfolding ids_where
one_id test id sample is = rw is refl

-- a message that is put where there is none is the only stale one
pub first_put : (old new : BenchState) (id bytes : List ℕ) (outcome : Result Unit EditFault) → old.content.messages ≡ [] → OnOk outcome (Makes (put_message id bytes) old new) → OnOk outcome (new.stale ≡ id ∷ [])
first_put old new id bytes (Err fault) none made = tt
first_put old new id bytes (Ok done) none made =
    let all : with_message id bytes old.content.messages ≡ new.content.messages = ap (λ c. c.messages) (made_is (message_refusal old.content.messages id bytes) (record old.content { messages = with_message id bytes old.content.messages }) new.content made.0) in
    let only : new.content.messages ≡ (id, record { octets = bytes; expected = None; addresses = None }) ∷ [] = sym all ∙ ap (with_message id bytes) none in
    made.1
    ∙ ap (ids_where (λ message. touches old.content (put_message id bytes) message || is_among message.0 old.stale)) only
    ∙ one_id (λ message. touches old.content (put_message id bytes) message || is_among message.0 old.stale) id (record { octets = bytes; expected = None; addresses = None }) (rw (same_id id) refl)
