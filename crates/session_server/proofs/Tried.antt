-- Edits that are made while a line is read.
use Rattle.std.proofs.Common.{◌≡◌, ◌⊎◌, inl, inr, Option, None, Some, Result, Ok, Err, IfErr, Bool, true, refl, sym, ap}
use Rattle.bench.specs.Bench.{BenchState, Tries, TriesInPlace}
use Rattle.bench.specs.Content.{Content, Edit, Answers, Refuses, after}
use Rattle.bench.specs.declared.fault.EditFault.{EditFault}
use Rattle.bench.specs.declared.fault.EditFault.TheVariants.{NoMemory}
use Rattle.session_server.specs.Session.{Demand, asks_question, asks_put, asks_edit, asks_report, edits, request_by, takes_memory}
use Rattle.session_server.specs.view.Progress.{Attempts}
use Rattle.session_server.specs.view.Task.{IsTried}

-- the refusal of a call of the bench that may be out of memory
pub by_call : (takes : Bool) (meaning : Result Content EditFault) (outcome : Result Unit EditFault) → takes ≡ true → Refuses meaning outcome → IfErr outcome (λ fault. (meaning ≡ Err fault) ⊎ ((takes ≡ true) × (fault ≡ NoMemory)))
by_call takes meaning (Ok done) is refused = tt
by_call takes (Ok content) (Err fault) is refused = inr (is, refused)
by_call takes (Err refusal) (Err fault) is refused = inl (ap Err (sym refused))

-- the refusal of an edit that is never out of memory
pub by_answer : (takes : Bool) (meaning : Result Content EditFault) (outcome : Result Unit EditFault) → Answers meaning outcome → IfErr outcome (λ fault. (meaning ≡ Err fault) ⊎ ((takes ≡ true) × (fault ≡ NoMemory)))
by_answer takes meaning (Ok done) answers = tt
by_answer takes (Ok content) (Err fault) answers = absurd answers
by_answer takes (Err refusal) (Err fault) answers = inl (ap Err (sym answers))

-- a session attempts an edit that the bench tries
pub attempts : (edit : Edit) (outcome : Result Unit EditFault) (old new : BenchState) → takes_memory edit ≡ true → Tries edit outcome old new → Attempts edit outcome old new
attempts edit outcome old new takes tries = (tries.0, tries.1, by_call (takes_memory edit) (after old.content edit) outcome takes tries.2)

pub attempts_in_place : (edit : Edit) (outcome : Result Unit EditFault) (old new : BenchState) → TriesInPlace edit outcome old new → Attempts edit outcome old new
attempts_in_place edit outcome old new tries = (tries.0, tries.1, by_answer (takes_memory edit) (after old.content edit) outcome tries.2)

pub ruleset trying = (attempts, attempts_in_place, by_call, by_answer)

-- the edit that was tried is the demanded one
pub tried : (ask : Option Demand) (outcome : Result Unit EditFault) (old new : BenchState) → IsTried ask outcome old new → (edit : Edit) × (request_by ask ≡ (λ rest. edits edit rest)) × Attempts edit outcome old new
tried None outcome old new is = absurd is
tried (Some (asks_question question)) outcome old new is = absurd is
tried (Some (asks_put count edit)) outcome old new is = absurd is
tried (Some (asks_edit edit)) outcome old new is = (edit, refl, is)
tried (Some asks_report) outcome old new is = absurd is
