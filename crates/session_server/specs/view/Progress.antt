-- How one command of a session goes. The rest of the input and the written octets may not be known.
use Rattle.std.specs.Prelude.{◌≡◌, ⊤, ℕ, ◌≤◌, ◌<◌, Bool, true, false, ◌⊎◌, List, [], ◌++◌, length, drop, Option, None, Some, Result, Ok, Err, OnOk, OnErr, IfErr, codes}
use Rattle.std.specs.Io.KnownBytes.{Appends}
use Rattle.devices.specs.Devices.{HasRisen}
use Rattle.session_text.specs.view.Input.{Input}
use Rattle.bench.specs.Bench.{BenchState, Makes}
use Rattle.bench.specs.Content.{Edit, after}
use Rattle.session_server.specs.Session.{Request, Served, truncated, SessionStep, Steps, Ends, Answered, MatchSessionEnd, MatchFault, AtLastEnd, profile_of, refusal_line, request_of, request_so_far, takes_memory}
use Rattle.bench.specs.declared.fault.EditFault.{EditFault}
use Rattle.bench.specs.declared.fault.EditFault.TheVariants.{NoMemory}
use Rattle.session_server.specs.declared.status.SessionEnd.{SessionEnd}
use Rattle.session_server.specs.declared.status.SessionEnd.TheVariants as ends
use Rattle.session_server.specs.declared.server.Progress.{Progress}
use Rattle.session_server.specs.declared.server.Progress.TheVariants as ways

-- a command that the unused octets ask for is carried out, and its reply is written
abbrev pub StepFrom : (List ℕ → Request) → Served → Option (List ℕ) → Option (List ℕ) → Served → Option (List ℕ) → Option (List ℕ) → Type 0
StepFrom request old None before new left after = ⊤
StepFrom request old (Some unused) before new None after = ⊥
StepFrom request old (Some unused) before new (Some left) after = (reply : List ℕ) × SessionStep old (request unused) reply new left × Appends before after reply

-- the unused octets end the session, and its last reply is written
abbrev pub EndFrom : (List ℕ → Request) → SessionEnd → Served → Option (List ℕ) → Option (List ℕ) → Served → Option (List ℕ) → Type 0
EndFrom request end old None before new after = ⊤
EndFrom request end old (Some unused) before new after = (reply : List ℕ) × Ends (request unused) end reply × Appends before after reply × (new ≡ old)

-- the octets that were read ask for something that is cut off: nothing is done, and nothing written
abbrev pub BreakFrom : (List ℕ → Request) → Served → Option (List ℕ) → Option (List ℕ) → Served → Option (List ℕ) → Option (List ℕ) → Type 0
BreakFrom request old None before new rest after = ⊤
BreakFrom request old (Some unused) before new None after = ⊥
BreakFrom request old (Some unused) before new (Some rest) after = (read : List ℕ) × (unused ≡ read ++ rest) × (request read ≡ truncated) × Appends before after [] × (new ≡ old)

-- the request of the unused octets is carried out, and a front of the reply is written
abbrev pub CutFrom : (List ℕ → Request) → Served → Option (List ℕ) → Option (List ℕ) → Served → Option (List ℕ) → Type 0
CutFrom request old None before new after = ⊤
CutFrom request old (Some unused) before new after = (reply front back : List ℕ) × (front ++ back ≡ reply) × Answered old (request unused) reply new × Appends before after front

-- A fact where the session goes on, and one for each end that the octets ask for. One where no more
-- could be read, and one where no more could be written. After its start, no session ends because
-- it is out of memory.
abbrev pub ProgressFollows : Progress → Type 0 → (SessionEnd → Type 0) → Type 0 → Type 0 → Type 0
ProgressFollows ways.Continues P Q R S = P
ProgressFollows (ways.Ends end) P Q R S = MatchSessionEnd end (Q end) R S ⊥

-- The session goes on after a command, or ends. Where it goes on, `left` is unused. The reader has
-- the octets `rest`.
abbrev pub GoesFrom : (List ℕ → Request) → Progress → Served → Option (List ℕ) → Option (List ℕ) → Served → Option (List ℕ) → Option (List ℕ) → Option (List ℕ) → Type 0
GoesFrom request way old unused before new left rest after =
    ProgressFollows way (StepFrom request old unused before new left after) (λ end. EndFrom request end old unused before new after) (BreakFrom request old unused before new rest after) (CutFrom request old unused before new after)

-- some octets ask for a command, whatever follows them
abbrev pub AsksAlone : Served → List ℕ → List ℕ → Served → List ℕ → Type 0
AsksAlone old unused reply new left = (used : List ℕ) × (unused ≡ used ++ left) × ((more : List ℕ) → SessionStep old (request_so_far (profile_of old) (used ++ more)) reply new more)

-- The next command is carried out, and its reply written. Where the input hasn't come to its end,
-- the octets after the command don't matter.
abbrev pub ServesFrom : Bool → Served → Option (List ℕ) → Option (List ℕ) → Served → Option (List ℕ) → Option (List ℕ) → Type 0
ServesFrom ended old None before new left after = ⊤
ServesFrom ended old (Some unused) before new None after = ⊥
ServesFrom ended old (Some unused) before new (Some left) after =
    (reply : List ℕ) × SessionStep old (request_of (profile_of old) unused) reply new left × (ended ≡ false → AsksAlone old unused reply new left) × Appends before after reply

-- the session goes on after its next command, or ends
abbrev pub Serves : Bool → Progress → Served → Option (List ℕ) → Option (List ℕ) → Served → Option (List ℕ) → Option (List ℕ) → Option (List ℕ) → Type 0
Serves ended way old unused before new left rest after =
    ProgressFollows way (ServesFrom ended old unused before new left after) (λ end. EndFrom (request_of (profile_of old)) end old unused before new after)
    (BreakFrom (request_so_far (profile_of old)) old unused before new rest after) (CutFrom (request_of (profile_of old)) old unused before new after)

-- The commands so far are carried out, and their replies written. Where the input hasn't come to
-- its end, the octets after them don't matter.
abbrev pub SoFar : Bool → Served → Option (List ℕ) → Option (List ℕ) → Served → Option (List ℕ) → Option (List ℕ) → Type 0
SoFar ended old None before new unused after = ⊤
SoFar ended old (Some stream) before new None after = ⊥
SoFar ended old (Some stream) before new (Some unused) after =
    (replies : List ℕ) × Steps request_of old stream replies new unused
    × (ended ≡ false → (used : List ℕ) × (stream ≡ used ++ unused) × ((more : List ℕ) → Steps request_so_far old (used ++ more) replies new more))
    × Appends before after replies

-- a fact where the session goes on; it ends only where the writer failed, and then another holds
abbrev pub Continues : Progress → Type 0 → Type 0 → Type 0
Continues ways.Continues P Q = P
Continues (ways.Ends end) P Q = (end ≡ ends.Write) × Q

-- The session ends so, and a fact holds. Or the writer failed, and another holds.
abbrev pub EndsBy : SessionEnd → Progress → Type 0 → Type 0 → Type 0
EndsBy wanted ways.Continues P Q = ⊥
EndsBy wanted (ways.Ends end) P Q = ((end ≡ wanted) × P) ⊎ ((end ≡ ends.Write) × Q)

-- a fact where the session goes on, and one for each fault that ends it
abbrev pub MatchProgress : Progress → Type 0 → Type 0 → Type 0 → Type 0 → Type 0
MatchProgress ways.Continues G P Q R = G
MatchProgress (ways.Ends end) G P Q R = MatchFault end P Q R

-- How a command goes by the faults of the reader and of the writer, counted before and after. It is
-- `Read` or `Write` only where one was counted, and `TurnLimit` only where no turn is left. Where
-- no more could be read, no read has come to the end.
abbrev pub TellsFaults : Progress → Input → ℕ → ℕ → ℕ → ℕ → Type 0
TellsFaults way input read read' written written' =
    MatchProgress way (written ≤ written') ((input.ended ≡ false) × HasRisen read read') (HasRisen written written') ((input.ended ≡ false) × (input.turns ≡ 0))

-- a fact where the session goes on
abbrev pub OnContinues : Progress → Type 0 → Type 0
OnContinues ways.Continues P = P
OnContinues (ways.Ends end) P = ⊤

-- a fact at the ends that come with the end of the input
abbrev pub AtLast : Progress → Type 0 → Type 0
AtLast ways.Continues P = ⊤
AtLast (ways.Ends end) P = AtLastEnd end P

-- A command that so many octets follow may be out of memory. Where the octets are there, the reply
-- says so. Else they are cut off.
pub record MayBeRefused (count : ℕ) (request : List ℕ → Request) : Type 0 where
  pub where_whole : (old : Served) (rest : List ℕ) → count ≤ length rest → SessionStep old (request rest) (refusal_line NoMemory) old (drop count rest)
  pub where_short : (rest : List ℕ) → length rest < count → request rest ≡ truncated

-- the reply to an edit
abbrev pub reply_line : Result Unit EditFault → List ℕ
reply_line (Ok done) = codes "ok\n"
reply_line (Err fault) = refusal_line fault

-- A session attempts an edit: it is made, or the answer says why not, and nothing has changed. An
-- edit that takes memory may be out of memory, also for its words.
abbrev pub Attempts : Edit → Result Unit EditFault → BenchState → BenchState → Type 0
Attempts edit outcome old new =
    OnOk outcome (Makes edit old new)
    × OnErr outcome (new ≡ old)
    × IfErr outcome (λ fault. (after old.content edit ≡ Err fault) ⊎ ((takes_memory edit ≡ true) × (fault ≡ NoMemory)))
