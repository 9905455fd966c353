-- How edits and reports change a bench and the runs.
use Rattle.std.proofs.Common.{◌≡◌, ℕ, inl, inr, [], length, Option, Result, Ok, Err, OnOk, IfErr, refl, sym, subst}
use Rattle.sieve_run.specs.Meter.{runs_after}
use Rattle.bench.specs.Bench.{BenchState, RefusedAmong}
use Rattle.bench.specs.Content.{Edit}
use Rattle.bench.specs.declared.fault.EditFault.{EditFault}
use Rattle.bench.specs.declared.fault.ReportFault.{ReportFault}
use Rattle.bench.specs.declared.fault.ReportFault.TheVariants as faults
use Rattle.bench.specs.view.ReportFault.{MatchReportFault}
use Rattle.session_server.specs.declared.task.Task.{Task}
use Rattle.session_server.specs.declared.task.Task.TheVariants as tasks
use Rattle.session_server.specs.view.Progress.{Attempts}
use Rattle.session_server.specs.view.Task.{Tasks}
use Rattle.session_server.specs.Session.{Demand, Served, served, Moved, unmoved, moved}
use Rattle.session_server.proofs.Tried.{tried}

same_moves : (old new : BenchState) (runs : ℕ) → new ≡ old → Moved (served old runs) (served new runs)
same_moves old new runs same = subst (λ (b : BenchState). Moved (served old runs) (served b runs)) (sym same) unmoved

pub edit_moves : (edit : Edit) (outcome : Result Unit EditFault) (old new : BenchState) (runs : ℕ) → Attempts edit outcome old new → Moved (served old runs) (served new runs)
edit_moves edit (Ok done) old new runs made = moved (served old runs) (served new runs) unmoved (inl (edit, new.content, made.0.0, (refl, made.0.1, refl)))
edit_moves edit (Err fault) old new runs made = same_moves old new runs made.1

-- before a task is given, an edit is made, or nothing is
pub tasks_move : (task : Task) (ask : Option Demand) (old new : BenchState) (runs : ℕ) → Tasks task ask old new → Moved (served old runs) (served new runs)
tasks_move (tasks.Made outcome) ask old new runs is =
    let made = tried ask outcome old new is in
    edit_moves made.0 outcome old new runs made.2
tasks_move (tasks.Ask question) ask old new runs is = same_moves old new runs is.1
tasks_move (tasks.Put subject count) ask old new runs is = same_moves old new runs is.1
tasks_move tasks.Report ask old new runs is = same_moves old new runs is.1
tasks_move (tasks.Forgotten count) ask old new runs is = same_moves old new runs is.1
tasks_move tasks.Unreadable ask old new runs is = same_moves old new runs is.1

pub report_moves : (outcome : Result Unit ReportFault) (old new : BenchState) (runs runs' : ℕ) → new.content ≡ old.content → OnOk outcome (new.stale ≡ []) → OnOk outcome (runs' ≡ runs_after (length old.stale) runs)
    → IfErr outcome (λ fault. MatchReportFault fault (RefusedAmong old.stale new.stale runs runs') ((new.stale ≡ []) × (runs' ≡ runs_after (length old.stale) runs))) → Moved (served old runs) (served new runs')
report_moves (Ok done) old new runs runs' content stale made fault = moved (served old runs) (served new runs') unmoved (inr (inl (content, stale, made)))
report_moves (Err faults.NoMemory) old new runs runs' content stale made fault = moved (served old runs) (served new runs') unmoved (inr (inr (content, fault)))
report_moves (Err faults.Write) old new runs runs' content stale made fault = moved (served old runs) (served new runs') unmoved (inr (inl (content, fault.0, fault.1)))

-- edits and reports in turn, and then others, are edits and reports in turn
pub moved_both : (a b c : Served) → Moved a b → Moved b c → Moved a c
moved_both a b c first unmoved = first
moved_both a b c first (moved mid new before last) = moved mid new (moved_both a b mid first before) last

-- where nothing is done, a bench stays as it is
pub stays : (old : Served) → Moved old old
stays old = unmoved
