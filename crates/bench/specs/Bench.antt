-- The state of a bench, and how edits and reports change it.
use Rattle.octets.specs.Octet.{is_among}
use Rattle.std.specs.Prelude.{◌≡◌, ℕ, suc, ◌<◌, List, ◌++◌, length, Option, None, Result, Ok, OnOk, OnErr, if◌then◌else◌}
use Rattle.sieve_run.specs.Meter.{runs_after}
use Rattle.sieve_verdict.specs.Verdict.{Verdict}
use Rattle.bench.specs.Content.{Answers, Content, Edit, Refuses, after}
use Rattle.bench.specs.Stale.{stale_after, verdict_due}
use Rattle.bench.specs.declared.fault.EditFault.{EditFault}

-- a bench's content, and the ids of the messages that the next report runs, in the list's order
pub record BenchState : Type 0 where
  pub content : Content
  pub stale : List (List ℕ)

-- the verdict on the message of an id that is not stale
abbrev pub verdict_at : BenchState → List ℕ → Option Verdict
verdict_at state id = if is_among id state.stale then None else verdict_due state.content id

-- An edit that nothing refuses is made. The bench holds the content that the edit makes of its own.
-- Those messages are stale that the edit touches, and those that were.
abbrev pub Makes : Edit → BenchState → BenchState → Type 0
Makes edit old new = (after old.content edit ≡ Ok new.content) × (new.stale ≡ stale_after old.content edit old.stale new.content)

-- An edit that may be out of memory is made, or it answers why not, and nothing has changed. Where
-- the edit has a refusal, that is the answer. Where it has none, it may only be out of memory.
abbrev pub Tries : Edit → Result Unit EditFault → BenchState → BenchState → Type 0
Tries edit outcome old new = OnOk outcome (Makes edit old new) × OnErr outcome (new ≡ old) × Refuses (after old.content edit) outcome

-- An edit that is never out of memory is made exactly where it has no refusal. Where it has one,
-- that is the answer, and nothing has changed.
abbrev pub TriesInPlace : Edit → Result Unit EditFault → BenchState → BenchState → Type 0
TriesInPlace edit outcome old new = OnOk outcome (Makes edit old new) × OnErr outcome (new ≡ old) × Answers (after old.content edit) outcome

-- A report was out of memory: the first of the stale messages were run and are stale no more. The
-- run on the next one was refused, and is counted too.
pub record RefusedAmong (old new : List (List ℕ)) (before after : ℕ) : Type 0 where
  pub done : List (List ℕ)
  pub whole : old ≡ done ++ new
  pub more : 0 < length new
  pub runs : after ≡ runs_after (suc (length done)) before
