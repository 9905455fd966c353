-- A session: the replies to a stream of octets, and the bench in the end.
use Rattle.std.specs.Prelude.{◌≡◌, ⊤, ℕ, ◌+◌, ◌-◌, ◌^◌, ◌≤◌, Bool, true, false, ◌⊎◌, List, [], ◌∷◌, ◌++◌, length, take, drop, Option, None, Some, is_some, Result, Ok, Err, nat_lt, if◌then◌else◌, codes}
use Rattle.std.specs.Io.KnownBytes.{Appends}
use Rattle.std.specs.Option.{option_map}
use Rattle.sieve_limits.specs.Limits.{line_limit}
use Rattle.sieve_profile.specs.Profile.{Profile}
use Rattle.sieve_run.specs.Library.{Lookup, missing, invalid, present, found_at, library_of}
use Rattle.sieve_run.specs.Meter.{runs_after}
use Rattle.bench.specs.Bench.{BenchState, RefusedAmong}
use Rattle.bench.specs.Content.{Content, Edit, put_script, put_message, rename_script, remove_script, remove_message, after, text_at, set_for_all, set_for_one}
use Rattle.bench.specs.Dump.{script_code}
use Rattle.bench.specs.Report.{report_text}
use Rattle.bench.specs.Stale.{stale_after}
use Rattle.script_names.specs.declared.name.ScriptName.{ScriptName}
use Rattle.session_text.specs.SessionLine.{SessionCommand, nothing, script, message, main, no_main, rename, drop_script, drop_message, envelope, mailbox, report, dump, expect, no_expect, mailboxes, message_envelope, no_message_envelope, clock, no_clock, first_line, command_of_line, is_long_so_far, line_so_far}
use Rattle.bench.specs.declared.setting.MessageSetting.{MessageSetting}
use Rattle.bench.specs.declared.setting.MessageSetting.TheVariants as own
use Rattle.bench.specs.declared.setting.Setting.{Setting}
use Rattle.bench.specs.declared.setting.Setting.TheVariants as common
use Rattle.bench.specs.declared.fault.EditFault.{EditFault}
use Rattle.bench.specs.declared.fault.EditFault.TheVariants.{NoSuchScript, NameTaken, NoSuchMessage, Full, TooLarge, NoMemory}
use Rattle.session_server.specs.declared.status.SessionEnd.{SessionEnd}
use Rattle.session_server.specs.declared.status.SessionEnd.TheVariants as ends
use Rattle.session_server.specs.declared.task.Question.{Question}
use Rattle.session_server.specs.declared.task.Question.TheVariants.{Nothing, Code}

-- The request at the start of a stream, and the rest. There is none, or a line that is no command,
-- or octets end too early. Or it is a question, an edit or a report.
pub data Request : Type 0 where
  over : Request
  unreadable : Request
  truncated : Request
  asks : (question : Question) (rest : List ℕ) → Request
  edits : (edit : Edit) (rest : List ℕ) → Request
  reports : (rest : List ℕ) → Request

-- an edit of so many octets, which follow the line directly
abbrev pub with_octets : ℕ → List ℕ → (List ℕ → Edit) → Request
with_octets count rest edit = if nat_lt (length rest) count then truncated else edits (edit (take count rest)) (drop count rest)

-- The demand of a command, whatever follows its line. It is to answer a question, to put octets,
-- another edit, or a report. The octets of a put follow the line directly.
pub data Demand : Type 0 where
  asks_question : (question : Question) → Demand
  asks_put : (count : ℕ) (edit : List ℕ → Edit) → Demand
  asks_edit : (edit : Edit) → Demand
  asks_report : Demand

abbrev pub demand_of : SessionCommand → Demand
demand_of nothing = asks_question Nothing
demand_of (script location name count) = asks_put count (λ octets. put_script (record { location = location; name = name }) octets)
demand_of (message id count) = asks_put count (λ octets. put_message id octets)
demand_of (main location name) = asks_edit (set_for_all (common.Main (Some (record { location = location; name = name }))))
demand_of no_main = asks_edit (set_for_all (common.Main None))
demand_of (rename location name new_location new_name) = asks_edit (rename_script (record { location = location; name = name }) (record { location = new_location; name = new_name }))
demand_of (drop_script location name) = asks_edit (remove_script (record { location = location; name = name }))
demand_of (drop_message id) = asks_edit (remove_message id)
demand_of (envelope from to) = asks_edit (set_for_all (common.Addresses (record { from = from; to = to })))
demand_of (mailbox box) = asks_edit (set_for_all (common.Mailbox box))
demand_of report = asks_report
demand_of (dump location name) = asks_question (Code (record { location = location; name = name }))
demand_of (expect id count) = asks_put count (λ octets. set_for_one id (own.Expected (Some octets)))
demand_of (no_expect id) = asks_edit (set_for_one id (own.Expected None))
demand_of (mailboxes count) = asks_put count (λ octets. set_for_all (common.Mailboxes octets))
demand_of (message_envelope id from to) = asks_edit (set_for_one id (own.Addresses (Some (record { from = from; to = to }))))
demand_of (no_message_envelope id) = asks_edit (set_for_one id (own.Addresses None))
demand_of (clock time) = asks_edit (set_for_all (common.Clock (Some time)))
demand_of no_clock = asks_edit (set_for_all (common.Clock None))

-- the request of a line with the octets after it; a line of no command is unreadable
abbrev pub request_by : Option Demand → List ℕ → Request
request_by None rest = unreadable
request_by (Some (asks_question question)) rest = asks question rest
request_by (Some (asks_put count edit)) rest = with_octets count rest edit
request_by (Some (asks_edit edit)) rest = edits edit rest
request_by (Some asks_report) rest = reports rest

-- the demand of a line under a profile
abbrev pub demand_at : Profile → List ℕ → Option Demand
demand_at profile line = option_map demand_of (command_of_line profile line)

-- a line that is too long is unreadable
abbrev pub request_at : Profile → List ℕ × List ℕ → Request
request_at profile (line, rest) = if nat_lt line_limit (length line) then unreadable else request_by (demand_at profile line) rest

-- the request of a stream under a profile
unfoldable pub request_of : Profile → List ℕ → Request
request_of profile [] = over
request_of profile (octet ∷ octets) = request_at profile (first_line (octet ∷ octets))

-- Octets without the end of a line are no whole command. They may become one, unless they are too
-- long for a line already.
abbrev pub request_after : Profile → List ℕ → Option (List ℕ × List ℕ) → Request
request_after profile read None = if is_long_so_far read then unreadable else truncated
request_after profile read (Some cut) = request_at profile cut

-- The request of the octets that are read, while more may come. Neither their end nor that of a
-- line without an LF is known.
unfoldable pub request_so_far : Profile → List ℕ → Request
request_so_far profile read = request_after profile read (line_so_far read)

-- no command is whole in these octets, while more may come
abbrev pub NoneIsWhole : Profile → List ℕ → Type 0
NoneIsWhole profile read = request_so_far profile read ≡ truncated

-- the words of the refusals
abbrev pub refusal_line : EditFault → List ℕ
refusal_line NoSuchScript = codes "no no-such-script\n"
refusal_line NameTaken = codes "no name-taken\n"
refusal_line NoSuchMessage = codes "no no-such-message\n"
refusal_line Full = codes "no full\n"
refusal_line TooLarge = codes "no too-large\n"
refusal_line NoMemory = codes "no no-memory\n"

-- the reply to `dump`: the lines of a script's code and `ok`, or why there are none
abbrev pub dump_reply : Lookup → List ℕ
dump_reply missing = refusal_line NoSuchScript
dump_reply invalid = codes "no invalid-script\n"
dump_reply (present tree) = script_code tree ++ codes "ok\n"

-- the reply to a dump of a bench's script, as an `include` finds it (RFC 6609, section 3.2)
abbrev pub dump_of : Content → ScriptName → List ℕ
dump_of content name = dump_reply (found_at (library_of content.profile (text_at content.scripts)) name)

-- The answer to a question. A line of no words asks nothing, and its answer is empty.
abbrev pub answer_to : Content → Question → List ℕ
answer_to content Nothing = []
answer_to content (Code name) = dump_of content name

-- whether a question may be out of memory
abbrev pub question_takes_memory : Question → Bool
question_takes_memory Nothing = false
question_takes_memory (Code name) = true

-- whether a setting of a session may be out of memory: its octets are copied, where it has some
abbrev pub copies : Setting → Bool
copies (common.Main name) = is_some name
copies (common.Addresses addresses) = true
copies (common.Mailbox box) = true
copies (common.Mailboxes text) = true
copies (common.Clock time) = false

-- whether a setting of one message may be out of memory
abbrev pub copies_for_one : MessageSetting → Bool
copies_for_one (own.Expected expected) = is_some expected
copies_for_one (own.Addresses addresses) = is_some addresses

-- whether an edit of a session may be out of memory
abbrev pub takes_memory : Edit → Bool
takes_memory (put_script name text) = true
takes_memory (put_message id bytes) = true
takes_memory (rename_script from to) = true
takes_memory (remove_script name) = true
takes_memory (remove_message id) = false
takes_memory (set_for_all setting) = copies setting
takes_memory (set_for_one id setting) = copies_for_one setting

-- a bench, and how many runs were made so far
pub record Served : Type 0 where
  pub bench : BenchState
  pub runs : ℕ

abbrev pub served : BenchState → ℕ → Served
served bench runs = record { bench = bench; runs = runs }

-- the profile of a bench that is served, by which its lines are read
abbrev pub profile_of : Served → Profile
profile_of served = served.bench.content.profile

-- An edit is made. The messages that it touches are stale, and no run is made.
abbrev pub Made : Edit → Content → Served → Served → Type 0
Made edit content old new = (new.bench.content ≡ content) × (new.bench.stale ≡ stale_after old.bench.content edit old.bench.stale content) × (new.runs ≡ old.runs)

-- The reply to an edit that makes this content or is refused, and the bench after it. Where the
-- edit is refused, nothing changes.
abbrev pub Replies : Edit → Bool → Result Content EditFault → Served → List ℕ → Served → Type 0
Replies edit takes (Ok content) old reply new = ((reply ≡ codes "ok\n") × Made edit content old new) ⊎ ((takes ≡ true) × (reply ≡ refusal_line NoMemory) × (new ≡ old))
Replies edit takes (Err fault) old reply new = ((reply ≡ refusal_line fault) ⊎ ((takes ≡ true) × (reply ≡ refusal_line NoMemory))) × (new ≡ old)

-- a report is made: each stale message is run once, and none is stale
abbrev pub Reported : Served → Served → Type 0
Reported old new = (new.bench.content ≡ old.bench.content) × (new.bench.stale ≡ []) × (new.runs ≡ runs_after (length old.bench.stale) old.runs)

-- a report is out of memory: the first of the stale messages are run
abbrev pub ReportRefused : Served → Served → Type 0
ReportRefused old new = (new.bench.content ≡ old.bench.content) × RefusedAmong old.bench.stale new.bench.stale old.runs new.runs

-- an edit is made, or a report is made or is out of memory
abbrev pub Moves : Served → Served → Type 0
Moves old new = ((edit : Edit) × (content : Content) × (after old.bench.content edit ≡ Ok content) × Made edit content old new) ⊎ (Reported old new ⊎ ReportRefused old new)

-- Edits and reports in turn, and nothing else. So a bench and the runs change, also where no device
-- says which octets it gave or took.
pub data Moved (old : Served) : Served → Type 0 where
  unmoved : Moved old old
  moved : (mid new : Served) → Moved old mid → Moves mid new → Moved old new

-- One command: its reply, the bench after it, and the rest of the stream.
abbrev pub SessionStep : Served → Request → List ℕ → Served → List ℕ → Type 0
SessionStep old over reply new left = ⊥
SessionStep old unreadable reply new left = ⊥
SessionStep old truncated reply new left = ⊥
SessionStep old (asks question rest) reply new left =
    ((reply ≡ answer_to old.bench.content question) ⊎ ((question_takes_memory question ≡ true) × (reply ≡ refusal_line NoMemory))) × (new ≡ old) × (left ≡ rest)
SessionStep old (edits edit rest) reply new left = Replies edit (takes_memory edit) (after old.bench.content edit) old reply new × (left ≡ rest)
SessionStep old (reports rest) reply new left = (((reply ≡ report_text old.bench.content) × Reported old new) ⊎ ((reply ≡ refusal_line NoMemory) × ReportRefused old new)) × (left ≡ rest)

-- Some commands in turn, each the request of the octets that are left then. With their replies, the
-- bench after them, and the rest of the octets.
pub data Steps (request : Profile → List ℕ → Request) (old : Served) (stream : List ℕ) : List ℕ → Served → List ℕ → Type 0 where
  none_yet : Steps request old stream [] old stream
  one_more : (replies reply : List ℕ) (mid new : Served) (rest left : List ℕ) → Steps request old stream replies mid rest → SessionStep mid (request (profile_of mid) rest) reply new left → Steps request old stream (replies ++ reply) new left

-- how a session ends at a stream, and its last reply
abbrev pub Ends : Request → SessionEnd → List ℕ → Type 0
Ends over end reply = (end ≡ ends.Done) × (reply ≡ [])
Ends unreadable end reply = (end ≡ ends.Syntax) × (reply ≡ codes "no syntax\n")
Ends truncated end reply = (end ≡ ends.Truncated) × (reply ≡ codes "no truncated\n")
Ends (asks question rest) end reply = ⊥
Ends (edits edit rest) end reply = ⊥
Ends (reports rest) end reply = ⊥

-- the text of a session over a stream, its end, and the bench and the runs that its commands leave
pub record SessionText (old : Served) (stream : List ℕ) (text : List ℕ) (end : SessionEnd) (new : Served) : Type 0 where
  pub replies : List ℕ
  pub last : List ℕ
  pub rest : List ℕ
  pub steps : Steps request_of old stream replies new rest
  pub ends : Ends (request_of (profile_of new) rest) end last
  pub whole : text ≡ replies ++ last

-- A session of which no more could be read. Its text is the replies to the commands that are whole
-- in the octets read. Its bench is the one that these commands leave.
pub record BrokenSession (old : Served) (read : List ℕ) (text : List ℕ) (new : Served) : Type 0 where
  pub rest : List ℕ
  pub steps : Steps request_so_far old read text new rest
  pub breaks : NoneIsWhole (profile_of new) rest

-- The reply to the next request of a stream, and the bench after it. The session goes on or ends.
abbrev pub Answered : Served → Request → List ℕ → Served → Type 0
Answered old request reply new = ((left : List ℕ) × SessionStep old request reply new left) ⊎ ((end : SessionEnd) × Ends request end reply × (new ≡ old))

-- A session of which no more could be written. Its text is the replies to some commands and a front
-- of the next reply. Its bench is the one that all these commands leave.
pub record CutSession (old : Served) (stream : List ℕ) (text : List ℕ) (new : Served) : Type 0 where
  pub replies : List ℕ
  pub mid : Served
  pub rest : List ℕ
  pub reply : List ℕ
  pub front : List ℕ
  pub back : List ℕ
  pub steps : Steps request_of old stream replies mid rest
  pub answered : Answered mid (request_of (profile_of mid) rest) reply new
  pub cut : front ++ back ≡ reply
  pub whole : text ≡ replies ++ front

-- a front of the text of some session over a stream
abbrev pub IsFront : Served → List ℕ → List ℕ → Type 0
IsFront old stream text = (back : List ℕ) × (end : SessionEnd) × (new : Served) × SessionText old stream (text ++ back) end new

-- OVER DEVICES

-- The whole session is carried out, and its text written, where the reader says which octets it
-- has.
abbrev pub SessionFrom : SessionEnd → Served → Option (List ℕ) → Option (List ℕ) → Served → Option (List ℕ) → Type 0
SessionFrom end old None before new after = ⊤
SessionFrom end old (Some stream) before new after = (text : List ℕ) × SessionText old stream text end new × Appends before after text

-- The commands in the octets that were read are carried out, and their replies are written. The
-- reader has the other octets.
abbrev pub BrokenSessionFrom : Served → Option (List ℕ) → Option (List ℕ) → Served → Option (List ℕ) → Option (List ℕ) → Type 0
BrokenSessionFrom old None before new left after = ⊤
BrokenSessionFrom old (Some stream) before new None after = ⊥
BrokenSessionFrom old (Some stream) before new (Some left) after = (read text : List ℕ) × (stream ≡ read ++ left) × BrokenSession old read text new × Appends before after text

-- The session is carried out up to and with a command whose reply is cut.
abbrev pub CutSessionFrom : Served → Option (List ℕ) → Option (List ℕ) → Served → Option (List ℕ) → Type 0
CutSessionFrom old None before new after = ⊤
CutSessionFrom old (Some stream) before new after = (text : List ℕ) × CutSession old stream text new × Appends before after text

-- A fact for the ends that the octets ask for, and one where no more could be read. One where no
-- more could be written, and one where the start was out of memory.
abbrev pub MatchSessionEnd : SessionEnd → Type 0 → Type 0 → Type 0 → Type 0 → Type 0
MatchSessionEnd ends.Done P Q R S = P
MatchSessionEnd ends.Syntax P Q R S = P
MatchSessionEnd ends.Truncated P Q R S = P
MatchSessionEnd ends.Read P Q R S = Q
MatchSessionEnd ends.TurnLimit P Q R S = Q
MatchSessionEnd ends.Write P Q R S = R
MatchSessionEnd ends.NoMemory P Q R S = S

-- a fact where the reader failed, one where the writer did, and one where the reads came to an end
abbrev pub MatchFault : SessionEnd → Type 0 → Type 0 → Type 0 → Type 0
MatchFault ends.Read P Q R = P
MatchFault ends.Write P Q R = Q
MatchFault ends.TurnLimit P Q R = R
MatchFault other P Q R = ⊤

-- There are no more turns than octets read and faults counted of the reader. This is so where the
-- reader says which octets it has left. A count that stands at the greatest u64 counts no more.
abbrev pub TurnsAreSpent : ℕ → Option (List ℕ) → Option (List ℕ) → ℕ → ℕ → Type 0
TurnsAreSpent turns None left faults faults' = ⊤
TurnsAreSpent turns (Some stream) None faults faults' = ⊥
TurnsAreSpent turns (Some stream) (Some left) faults faults' = (turns ≤ (length stream - length left) + (faults' - faults)) ⊎ (2 ^ 64 - 1 ≤ faults')

-- All the reads were made that were allowed. A count that stands at the greatest u64 counts no
-- more.
abbrev pub ReadsAreMade : ℕ → ℕ → ℕ → Type 0
ReadsAreMade turns calls calls' = (calls + turns ≤ calls') ⊎ (2 ^ 64 - 1 ≤ calls')

-- a fact at the ends that come with the end of the input
abbrev pub AtLastEnd : SessionEnd → Type 0 → Type 0
AtLastEnd ends.Done P = P
AtLastEnd ends.Truncated P = P
AtLastEnd other P = ⊤
