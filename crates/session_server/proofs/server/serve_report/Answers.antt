use Rattle.std.proofs.Common.{◌≡◌, [], length}
use Rattle.sieve_run.specs.Meter.{runs_after}
use Rattle.bench.specs.Report.{report_text}
use Rattle.session_server.specs.Session.{reports, served}
use Rattle.session_server.proofs.Moving.{report_moves}
use Rattle.session_server.proofs.Serving.{report_replies, step_cut}
use Rattle.session_server.proofs.server.serve_report.Goals as goal

pub returns-in-Err-Write-clause-goes : goal.returns-in-Err-Write-clause-goes
returns-in-Err-Write-clause-goes g c = λ unused rest.
    let old = served c.args.bench.now c.args.meter.now in
    let new = served c.report.new.self c.report.new.meter in
    let made : (c.report.new.self.stale ≡ []) × (c.report.new.meter ≡ runs_after (length c.args.bench.now.stale) c.args.meter.now) = rw c.in-Err-Write.field-0-is at c.in-Err-Write.ensures.at_fault in
    step_cut _ _ _ _ (λ rest. reports rest) old new unused unused (report_text old.bench.content) (report_replies old new unused (c.in-Err-Write.ensures.content, made.0, made.1)) (rw c.in-Err-Write.field-0-is at c.in-Err-Write.ensures.err)

pub returns-in-Ok-clause-moves : goal.returns-in-Ok-clause-moves
returns-in-Ok-clause-moves g c = report_moves c.report.result _ _ _ _ c.report.ensures.content c.report.ensures.stale c.report.ensures.runs c.report.ensures.at_fault

pub returns-in-Err-NoMemory-clause-moves : goal.returns-in-Err-NoMemory-clause-moves
returns-in-Err-NoMemory-clause-moves g c = report_moves c.report.result _ _ _ _ c.report.ensures.content c.report.ensures.stale c.report.ensures.runs c.report.ensures.at_fault

pub returns-in-Err-Write-clause-moves : goal.returns-in-Err-Write-clause-moves
returns-in-Err-Write-clause-moves g c = report_moves c.report.result _ _ _ _ c.report.ensures.content c.report.ensures.stale c.report.ensures.runs c.report.ensures.at_fault
