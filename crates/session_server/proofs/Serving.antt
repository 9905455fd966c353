-- How the commands of a session are served.
use Rattle.std.proofs.Common.{◌≡◌, ℕ, ◌<◌, ◌≤◌, ◌⊎◌, inl, inr, List, length, take, drop, sym, ap, ◌∙◌, refl, arith, rules, Option, None, Some, Result, Ok, Err, OnOk, OnErr, IfErr, Bool, true, false, nat_lt, nat_le, ◌||◌, ◌&&◌, is_none, cond, codes, IfSome, length-take}
use Rattle.std.proofs.lemmas.Bool.Decides.{nat_tests}
use Rattle.std.proofs.KnownBytes.{Appends-nil}
use Rattle.std.specs.Io.KnownBytes.{Appends}
use Rattle.devices.specs.Devices.{HasRisen}
use Rattle.sieve_limits.specs.Limits.{expected_limit, mailboxes_limit, message_count_limit, message_limit, script_count_limit, text_limit}
use Rattle.devices.specs.Writers.{Wrote, WroteFront}
use Rattle.bench.specs.Bench.{BenchState}
use Rattle.bench.specs.Content.{Content, Edit, after, unless, is_long, is_long_id, text_at, message_at, with_script, with_message, changed, sample_with}
use Rattle.session_text.specs.view.Payload.{BreaksOff, Takes, FallsShort}
use Rattle.session_server.specs.Session.{answer_to, asks, Ends, MatchFault, MatchSessionEnd, question_takes_memory, Reported, ReportRefused, Request, Served, served, SessionStep, takes_memory, with_octets, edits, reports, truncated, Replies, refusal_line}
use Rattle.bench.specs.Report.{report_text}
use Rattle.bench.specs.Stale.{stale_after}
use Rattle.session_server.specs.view.Task.{edit_of, limit_of}
use Rattle.session_server.specs.view.Progress.{BreakFrom, Continues, CutFrom, EndsBy, ProgressFollows, GoesFrom, MatchProgress, MayBeRefused, StepFrom, EndFrom, Attempts, reply_line}
use Rattle.session_server.specs.declared.server.Progress.{Progress}
use Rattle.session_server.proofs.Moving.{edit_moves, report_moves, stays}
use Rattle.session_server.specs.declared.server.Progress.TheVariants as ways
use Rattle.bench.specs.declared.setting.MessageSetting.TheVariants as own
use Rattle.bench.specs.declared.fault.EditFault.{EditFault}
use Rattle.bench.specs.declared.fault.EditFault.TheVariants.{TooLarge, NoSuchMessage, Full, NoMemory}
use Rattle.session_server.specs.declared.task.Question.{Question}
use Rattle.session_server.specs.declared.task.Subject.{Subject}
use Rattle.session_server.specs.declared.task.Subject.TheVariants as subjects
use Rattle.session_server.specs.declared.status.SessionEnd.{SessionEnd}
use Rattle.session_server.specs.declared.status.SessionEnd.TheVariants as ends

-- REQUESTS AND REPLIES

-- the unused octets ask for a command, this is its reply, and so much is left
abbrev pub RepliesTo : (List ℕ → Request) → Served → Option (List ℕ) → List ℕ → Served → Option (List ℕ) → Type 0
RepliesTo request old None reply new left = Unit {0}
RepliesTo request old (Some unused) reply new None = ⊥
RepliesTo request old (Some unused) reply new (Some left) = SessionStep old (request unused) reply new left

-- the unused octets end the session, and this is its last reply
abbrev pub EndsAt : (List ℕ → Request) → Option (List ℕ) → SessionEnd → List ℕ → Type 0
EndsAt request None end reply = Unit {0}
EndsAt request (Some unused) end reply = Ends (request unused) end reply

step_written : (request : List ℕ → Request) (old new : Served) (unused left before after' : Option (List ℕ)) (reply : List ℕ) → RepliesTo request old unused reply new left → Appends before after' reply
    → StepFrom request old unused before new left after'
step_written request old new None left before after' reply asked written = tt
step_written request old new (Some xs) None before after' reply asked written = absurd asked
step_written request old new (Some xs) (Some ys) before after' reply asked written = (reply, asked, written)

pub step_cut : {T : Type 0} (contents : T → Option (List ℕ)) (fault_count : T → ℕ) (w w' : T) (request : List ℕ → Request) (old new : Served) (unused left : Option (List ℕ)) (reply : List ℕ)
    → RepliesTo request old unused reply new left → WroteFront contents fault_count w w' reply → CutFrom request old unused (contents w) new (contents w')
step_cut contents fault_count w w' request old new None left reply asked cut = tt
step_cut contents fault_count w w' request old new (Some xs) None reply asked cut = absurd asked
step_cut contents fault_count w w' request old new (Some xs) (Some ys) reply asked cut = (reply, cut.front, cut.back, cut.whole, inl (ys, asked), cut.front_appended)

end_written : (request : List ℕ → Request) (end : SessionEnd) (old : Served) (unused before after' : Option (List ℕ)) (reply : List ℕ) → EndsAt request unused end reply → Appends before after' reply
    → EndFrom request end old unused before old after'
end_written request end old None before after' reply asked written = tt
end_written request end old (Some xs) before after' reply asked written = (reply, asked, written, refl)

end_cut : {T : Type 0} (contents : T → Option (List ℕ)) (fault_count : T → ℕ) (w w' : T) (request : List ℕ → Request) (end : SessionEnd) (old : Served) (unused : Option (List ℕ)) (reply : List ℕ)
    → EndsAt request unused end reply → WroteFront contents fault_count w w' reply → CutFrom request old unused (contents w) old (contents w')
end_cut contents fault_count w w' request end old None reply asked cut = tt
end_cut contents fault_count w w' request end old (Some xs) reply asked cut = (reply, cut.front, cut.back, cut.whole, inr (end, asked, refl), cut.front_appended)

-- the session goes on where a reply was written, and ends where the writer failed
pub answered : {T : Type 0} (contents : T → Option (List ℕ)) (fault_count : T → ℕ) (w w' : T) (request : List ℕ → Request) (way : Progress) (old new : Served) (unused left rest : Option (List ℕ)) (reply : List ℕ)
    → Continues way (Wrote contents fault_count w w' reply) (WroteFront contents fault_count w w' reply) → RepliesTo request old unused reply new left
    → GoesFrom request way old unused (contents w) new left rest (contents w')
answered contents fault_count w w' request ways.Continues old new unused left rest reply said asked = step_written request old new unused left (contents w) (contents w') reply asked said.text_appended
answered contents fault_count w w' request (ways.Ends end) old new unused left rest reply said asked = rw said.0 (step_cut contents fault_count w w' request old new unused left reply asked said.1)

-- The session ends as it is due where its last reply was written, or the writer failed. P and R are
-- facts of ways that it doesn't go.
pub ended : {T : Type 0} (contents : T → Option (List ℕ)) (fault_count : T → ℕ) (w w' : T) (request : List ℕ → Request) (wanted : SessionEnd) (way : Progress) (old : Served) (unused : Option (List ℕ)) (reply : List ℕ) (P R : Type 0)
    → ((Q S : Type 0) → Q → MatchSessionEnd wanted Q R S ⊥) → EndsBy wanted way (Wrote contents fault_count w w' reply) (WroteFront contents fault_count w w' reply) → EndsAt request unused wanted reply
    → ProgressFollows way P (λ end. EndFrom request end old unused (contents w) old (contents w')) R (CutFrom request old unused (contents w) old (contents w'))
ended contents fault_count w w' request wanted ways.Continues old unused reply P R due said asked = absurd said
ended contents fault_count w w' request wanted (ways.Ends end) old unused reply P R due (inl both) asked =
    rw both.0 (due _ _ (end_written request wanted old unused (contents w) (contents w') reply asked both.1.text_appended))
ended contents fault_count w w' request wanted (ways.Ends end) old unused reply P R due (inr failed) asked = rw failed.0 (end_cut contents fault_count w w' request wanted old unused reply asked failed.1)

-- the writer's faults at a reply
pub answer_faults : {T : Type 0} (contents : T → Option (List ℕ)) (fault_count : T → ℕ) (w w' : T) (way : Progress) (reply : List ℕ) (P R : Type 0)
    → Continues way (Wrote contents fault_count w w' reply) (WroteFront contents fault_count w w' reply)
    → MatchProgress way (fault_count w ≤ fault_count w') P (HasRisen (fault_count w) (fault_count w')) R
answer_faults contents fault_count w w' ways.Continues reply P R said = said.faults_kept
answer_faults contents fault_count w w' (ways.Ends end) reply P R said = rw said.0 said.1.fault_counted

-- the writer's faults at a last reply
pub end_faults : {T : Type 0} (contents : T → Option (List ℕ)) (fault_count : T → ℕ) (w w' : T) (wanted : SessionEnd) (way : Progress) (reply : List ℕ) (P Q R : Type 0)
    → MatchFault wanted P (HasRisen (fault_count w) (fault_count w')) R → EndsBy wanted way (Wrote contents fault_count w w' reply) (WroteFront contents fault_count w w' reply)
    → MatchProgress way Q P (HasRisen (fault_count w) (fault_count w')) R
end_faults contents fault_count w w' wanted ways.Continues reply P Q R none said = absurd said
end_faults contents fault_count w w' wanted (ways.Ends end) reply P Q R none (inl both) = rw both.0 none
end_faults contents fault_count w w' wanted (ways.Ends end) reply P Q R none (inr failed) = rw failed.0 failed.1.fault_counted

-- the fact of a way gives another, where the fact of each way does
pub follows_by : (way : Progress) (P P' R R' S S' : Type 0) (Q Q' : SessionEnd → Type 0) → (P → P') → ((end : SessionEnd) → Q end → Q' end) → (R → R') → (S → S') → ProgressFollows way P Q R S → ProgressFollows way P' Q' R' S'
follows_by ways.Continues P P' R R' S S' Q Q' p q r s h = p h
follows_by (ways.Ends ends.Done) P P' R R' S S' Q Q' p q r s h = q ends.Done h
follows_by (ways.Ends ends.Syntax) P P' R R' S S' Q Q' p q r s h = q ends.Syntax h
follows_by (ways.Ends ends.Truncated) P P' R R' S S' Q Q' p q r s h = q ends.Truncated h
follows_by (ways.Ends ends.Read) P P' R R' S S' Q Q' p q r s h = r h
follows_by (ways.Ends ends.Write) P P' R R' S S' Q Q' p q r s h = s h
follows_by (ways.Ends ends.NoMemory) P P' R R' S S' Q Q' p q r s h = h
follows_by (ways.Ends ends.TurnLimit) P P' R R' S S' Q Q' p q r s h = r h

-- a fact N that is known where no more could be read holds beside R
pub where_broken : (way : Progress) (P R S N A B G F : Type 0) (Q : SessionEnd → Type 0) → MatchProgress way G (N × A) F (N × B) → ProgressFollows way P Q R S → ProgressFollows way P Q (N × R) S
where_broken ways.Continues P R S N A B G F Q known h = h
where_broken (ways.Ends ends.Done) P R S N A B G F Q known h = h
where_broken (ways.Ends ends.Syntax) P R S N A B G F Q known h = h
where_broken (ways.Ends ends.Truncated) P R S N A B G F Q known h = h
where_broken (ways.Ends ends.Read) P R S N A B G F Q known h = (known.0, h)
where_broken (ways.Ends ends.Write) P R S N A B G F Q known h = h
where_broken (ways.Ends ends.NoMemory) P R S N A B G F Q known h = h
where_broken (ways.Ends ends.TurnLimit) P R S N A B G F Q known h = (known.0, h)

-- REPLIES TO EDITS

-- the reply to an edit that is made
replies_ok : (edit : Edit) (takes : Bool) (content : Content) (old new : BenchState) (runs : ℕ) → content ≡ new.content → new.stale ≡ stale_after old.content edit old.stale new.content
    → Replies edit takes (Ok content) (served old runs) (codes "ok\n") (served new runs)
replies_ok edit takes content old new runs same stale =
    inl (refl, (sym same, stale ∙ ap (λ (c : Content). stale_after old.content edit old.stale c) (sym same), refl))

-- an edit answers as its definition allows
replies_of : (edit : Edit) (takes : Bool) (outcome : Result Unit EditFault) (meaning : Result Content EditFault) (old new : BenchState) (runs : ℕ) → OnOk outcome ((meaning ≡ Ok new.content) × (new.stale ≡ stale_after old.content edit old.stale new.content)) → OnErr outcome (new ≡ old) → IfErr outcome (λ fault. (meaning ≡ Err fault) ⊎ ((takes ≡ true) × (fault ≡ NoMemory)))
    → Replies edit takes meaning (served old runs) (reply_line outcome) (served new runs)
replies_of edit takes (Ok done) (Ok content) old new runs ok err refused =
    let made = ok.0 in
    let same : content ≡ new.content = cc in
    replies_ok edit takes content old new runs same ok.1
replies_of edit takes (Ok done) (Err fault) old new runs ok err refused = let made = ok.0 in absurd cc
replies_of edit takes (Err fault) (Ok content) old new runs ok err (inl is) = absurd (search rules)
replies_of edit takes (Err fault) (Ok content) old new runs ok err (inr is) = inr (is.0, ap refusal_line is.1, ap (λ b. served b runs) err)
replies_of edit takes (Err fault) (Err refusal) old new runs ok err (inl is) =
    let same : fault ≡ refusal = cc in
    (inl (ap refusal_line same), ap (λ b. served b runs) err)
replies_of edit takes (Err fault) (Err refusal) old new runs ok err (inr is) = (inr (is.0, ap refusal_line is.1), ap (λ b. served b runs) err)

pub tried_replies : (edit : Edit) (outcome : Result Unit EditFault) (old new : BenchState) (runs : ℕ) → Attempts edit outcome old new
    → Replies edit (takes_memory edit) (after old.content edit) (served old runs) (reply_line outcome) (served new runs)
tried_replies edit outcome old new runs made = replies_of edit (takes_memory edit) outcome (after old.content edit) old new runs made.0 made.1 made.2

-- an edit that takes memory may be out of memory
pub no_memory_replies : (edit : Edit) (takes : Bool) (meaning : Result Content EditFault) (old : Served) → takes ≡ true → Replies edit takes meaning old (refusal_line NoMemory) old
no_memory_replies edit true (Ok content) old is = inr (refl, refl, refl)
no_memory_replies edit true (Err fault) old is = (inr (refl, refl), refl)
no_memory_replies edit false meaning old is = absurd (search rules)

-- a put takes memory
pub put_takes : (subject : Subject) (octets : List ℕ) → takes_memory (edit_of subject octets) ≡ true
put_takes (subjects.Script name) octets = refl
put_takes (subjects.Message id) octets = refl
put_takes (subjects.Expected id) octets = refl
put_takes subjects.Mailboxes octets = refl

second_holds : (a b : Bool) → b ≡ true → (a || b) ≡ true
second_holds true b holds = refl
second_holds false b holds = holds

-- more octets than the limit are refused as too large
too_large : (subject : Subject) (old : Content) (octets : List ℕ) → limit_of subject < length octets → after old (edit_of subject octets) ≡ Err TooLarge
too_large (subjects.Script name) old octets more =
    let past : nat_lt text_limit (length octets) ≡ true = grind (arith, nat_tests) in
    let first : (is_long name.name || nat_lt text_limit (length octets)) ≡ true = second_holds (is_long name.name) _ past in
    ap (λ (b : Bool). unless (cond b (Some TooLarge) (cond (is_none (text_at old.scripts name) && nat_le script_count_limit (length old.scripts)) (Some Full) None)) (record old { scripts = with_script name octets old.scripts })) first
too_large (subjects.Message id) old octets more =
    let past : nat_lt message_limit (length octets) ≡ true = grind (arith, nat_tests) in
    let first : (is_long_id id || nat_lt message_limit (length octets)) ≡ true = second_holds (is_long_id id) _ past in
    ap (λ (b : Bool). unless (cond b (Some TooLarge) (cond (is_none (message_at old.messages id) && nat_le message_count_limit (length old.messages)) (Some Full) None)) (record old { messages = with_message id octets old.messages })) first
too_large (subjects.Expected id) old octets more =
    let past : nat_lt expected_limit (length octets) ≡ true = grind (arith, nat_tests) in
    let first : (is_long_id id || nat_lt expected_limit (length octets)) ≡ true = second_holds (is_long_id id) _ past in
    ap (λ (b : Bool). unless (cond b (Some TooLarge) (cond (is_none (message_at old.messages id)) (Some NoSuchMessage) None)) (record old { messages = changed id (sample_with (own.Expected (Some octets))) old.messages })) first
too_large subjects.Mailboxes old octets more =
    let past : nat_lt mailboxes_limit (length octets) ≡ true = grind (arith, nat_tests) in
    ap (λ (b : Bool). unless (cond b (Some TooLarge) None) (record old { envelope = record old.envelope { mailboxes = octets } })) past

-- octets that weren't kept are too many, or the session is out of memory
pub unkept_replies : (subject : Subject) (count : ℕ) (old : Served) (octets : List ℕ) → length octets ≡ count → Replies (edit_of subject octets) (takes_memory (edit_of subject octets)) (after old.bench.content (edit_of subject octets)) old (refusal_line (cond (nat_lt (limit_of subject) count) TooLarge NoMemory)) old
unkept_replies subject count old octets size = by_flag (nat_lt (limit_of subject) count) refl
  where
    by_flag : (b : Bool) → nat_lt (limit_of subject) count ≡ b → Replies (edit_of subject octets) (takes_memory (edit_of subject octets)) (after old.bench.content (edit_of subject octets)) old (refusal_line (cond b TooLarge NoMemory)) old
    by_flag true is =
        let more : limit_of subject < length octets = grind (arith, nat_tests) in
        rw (too_large subject old.bench.content octets more) (inl refl, refl)
    by_flag false is = no_memory_replies (edit_of subject octets) (takes_memory (edit_of subject octets)) (after old.bench.content (edit_of subject octets)) old (put_takes subject octets)

-- COUNTED OCTETS

-- a put with enough octets after it is an edit
enough : (count : ℕ) (rest : List ℕ) (edit : List ℕ → Edit) → count ≤ length rest → with_octets count rest edit ≡ edits (edit (take count rest)) (drop count rest)
enough count rest edit within = grind (arith, nat_tests)

-- a put with too few octets after it is cut off
pub short : (count : ℕ) (edit : List ℕ → Edit) (rest : List ℕ) → length rest < count → with_octets count rest edit ≡ truncated
short count edit rest less = grind (arith, nat_tests)

-- the reply to a put of octets that came
pub put_replies : (count : ℕ) (edit : List ℕ → Edit) (old new : Served) (unused left kept : Option (List ℕ)) (reply : List ℕ)
    → Takes count unused left kept → ((octets : List ℕ) → length octets ≡ count → IfSome kept (λ k. k ≡ octets) → Replies (edit octets) (takes_memory (edit octets)) (after old.bench.content (edit octets)) old reply new)
    → RepliesTo (λ rest. with_octets count rest edit) old unused reply new left
put_replies count edit old new None left kept reply taken replies = tt
put_replies count edit old new (Some xs) None kept reply taken replies = absurd taken
put_replies count edit old new (Some xs) (Some ys) kept reply taken replies =
    rw (enough count xs edit taken.0) (replies (take count xs) (omega (arith, length-take count xs, taken.0)) taken.2, taken.1)

-- octets that end too early end the session
pub falls_short : (request : List ℕ → Request) (count : ℕ) (unused rest : Option (List ℕ)) → ((octets : List ℕ) → length octets < count → request octets ≡ truncated) → FallsShort count unused rest
    → EndsAt request unused ends.Truncated (codes "no truncated\n")
falls_short request count None rest cut less = tt
falls_short request count (Some xs) rest cut less = rw (cut xs less.0) (refl, refl)

-- octets of which no more can be read break the session off
pub breaks_off : (request : List ℕ → Request) (count : ℕ) (old : Served) (unused rest written : Option (List ℕ)) → ((octets : List ℕ) → length octets < count → request octets ≡ truncated) → BreaksOff count unused rest
    → BreakFrom request old unused written old rest written
breaks_off request count old None rest written cut broken = tt
breaks_off request count old (Some xs) None written cut broken = absurd broken
breaks_off request count old (Some xs) (Some ys) written cut broken = (broken.0, broken.1, cut broken.0 broken.2, Appends-nil written, refl)

-- the reply to a command that is out of memory
pub refused_replies : (count : ℕ) (request : List ℕ → Request) (old : Served) (unused left kept : Option (List ℕ)) → MayBeRefused count request → Takes count unused left kept → RepliesTo request old unused (refusal_line NoMemory) old left
refused_replies count request old None left kept may taken = tt
refused_replies count request old (Some xs) None kept may taken = absurd taken
refused_replies count request old (Some xs) (Some ys) kept may taken = rw taken.1 (may.where_whole old xs taken.0)

-- a put that takes memory may be out of memory
pub put_refused : (count : ℕ) (edit : List ℕ → Edit) → ((octets : List ℕ) → takes_memory (edit octets) ≡ true) → MayBeRefused count (λ rest. with_octets count rest edit)
put_refused count edit takes = record {
  where_whole = λ old rest within. rw (enough count rest edit within) (no_memory_replies _ _ (after old.bench.content (edit (take count rest))) old (takes (take count rest)), refl);
  where_short = short count edit;
}

-- a question that takes memory may be out of memory
pub question_refused : (question : Question) → question_takes_memory question ≡ true → MayBeRefused 0 (λ rest. asks question rest)
question_refused question takes = record {
  where_whole = λ old rest within. (inr (takes, refl), refl, refl);
  where_short = λ rest less. absurd (omega (arith, less));
}

-- OTHER COMMANDS

-- an edit that no octets follow
pub edit_replies : (edit : Edit) (old new : Served) (unused : Option (List ℕ)) (reply : List ℕ) → Replies edit (takes_memory edit) (after old.bench.content edit) old reply new → RepliesTo (λ rest. edits edit rest) old unused reply new unused
edit_replies edit old new None reply replies = tt
edit_replies edit old new (Some xs) reply replies = (replies, refl)

-- the reply to a report
pub report_replies : (old new : Served) (unused : Option (List ℕ)) → Reported old new → RepliesTo (λ rest. reports rest) old unused (report_text old.bench.content) new unused
report_replies old new None made = tt
report_replies old new (Some xs) made = (inl (refl, made), refl)

-- the reply to a report that is out of memory
pub refused_report_replies : (old new : Served) (unused : Option (List ℕ)) → ReportRefused old new → RepliesTo (λ rest. reports rest) old unused (refusal_line NoMemory) new unused
refused_report_replies old new None refused = tt
refused_report_replies old new (Some xs) refused = (inr (refl, refused), refl)

-- the answer to a question
pub question_replies : (question : Question) (old : Served) (unused : Option (List ℕ))
    → RepliesTo (λ rest. asks question rest) old unused (answer_to old.bench.content question) old unused
question_replies question old None = tt
question_replies question old (Some xs) = (inl refl, refl, refl)

pub ruleset serving = (answered, answer_faults, tried_replies, no_memory_replies, put_takes, put_replies, falls_short, breaks_off, unkept_replies, edit_replies, report_replies, refused_report_replies, question_replies, edit_moves, report_moves, stays)
