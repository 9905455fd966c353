use Rattle.std.proofs.Common.{◌≡◌, ◌∙◌, ap, sym, take}
use Rattle.session_server.specs.Session.{demand_at, request_of}
use Rattle.session_server.specs.declared.status.SessionEnd.TheVariants.{Syntax}
use Rattle.session_server.proofs.Moving.{moved_both, tasks_move}
use Rattle.session_server.proofs.Requests.{break_served, cut_line_break, cut_served, end_served, line_alone, line_begins, long_end, over_end, step_served}
use Rattle.session_server.proofs.Serving.{end_faults, ended, follows_by, where_broken}
use Rattle.session_server.proofs.server.serve.Goals as goal

pub returns-in-Over-clause-goes : goal.returns-in-Over-clause-goes
returns-in-Over-clause-goes g c = over_end _ _ _ _ _ c.in-Over.ensures.keeps c.in-Over.ensures.line

pub returns-in-Over-clause-faults : goal.returns-in-Over-clause-faults
returns-in-Over-clause-faults g c = tt

pub returns-in-TooLong-clause-goes : goal.returns-in-TooLong-clause-goes
returns-in-TooLong-clause-goes g c =
    ended _ _ _ _ (request_of c.args.bench.now.content.profile) Syntax c.refuse_line.result _ _ _ _ _ (λ Q S q. q) c.refuse_line.ensures
    (long_end _ _ (g.R.Source.remaining c.next.new.reader) c.next.new.input.pending c.in-TooLong.ensures.keeps c.in-TooLong.ensures.line c.in-TooLong.ensures.within)

pub returns-in-TooLong-clause-faults : goal.returns-in-TooLong-clause-faults
returns-in-TooLong-clause-faults g c = end_faults _ _ _ _ Syntax c.refuse_line.result _ _ _ _ tt c.refuse_line.ensures

pub returns-in-Failed-clause-goes : goal.returns-in-Failed-clause-goes
returns-in-Failed-clause-goes g c = cut_line_break _ _ _ _ c.next.new.input.pending c.in-Failed.ensures.keeps c.in-Failed.ensures.within

pub returns-in-Spent-clause-goes : goal.returns-in-Spent-clause-goes
returns-in-Spent-clause-goes g c = cut_line_break _ _ _ _ c.next.new.input.pending c.in-Spent.ensures.keeps c.in-Spent.ensures.within

pub returns-in-Whole-clause-goes : goal.returns-in-Whole-clause-goes
returns-in-Whole-clause-goes g c =
    let pending = c.next.new.input.pending in
    let profile = c.args.bench.now.content.profile in
    let line : c.split_at.result.0.now ≡ take c.in-Whole.len pending = c.split_at.ensures.front ∙ ap (take c.in-Whole.len) c.pending.ensures in
    let left = g.R.Source.remaining c.next.new.reader in
    let ask = demand_at profile (take c.in-Whole.len pending) in
    let front = take c.in-Whole.skip pending in
    let begins = rw (← c.consume.ensures.pending) at (line_begins profile _ left pending c.in-Whole.len c.in-Whole.skip c.in-Whole.ensures.keeps c.in-Whole.ensures.line c.in-Whole.ensures.within) in
    follows_by c.perform.result _ _ _ _ _ _ _ _
    (step_served front ask c.perform.new.input.ended _ _ _ _ _ _ _ begins (λ going. line_alone profile pending c.in-Whole.len c.in-Whole.skip (c.in-Whole.ensures.ended (sym c.consume.ensures.ended ∙ c.perform.ensures.reads.stays_ended going)) c.in-Whole.ensures.within))
    (λ end. end_served front ask end _ _ _ _ _ _ begins)
    (λ both. break_served front ask _ _ _ _ _ _ _ begins (line_alone profile pending c.in-Whole.len c.in-Whole.skip (c.in-Whole.ensures.ended (sym c.consume.ensures.ended ∙ c.perform.ensures.reads.stays_ended both.0)) c.in-Whole.ensures.within) both.1)
    (cut_served front ask _ _ _ _ _ _ begins)
    (where_broken c.perform.result _ _ _ _ _ _ _ _ _ c.perform.ensures.faults (c.perform.ensures.goes ask c.args.bench.now (rw (← line) c.task_of-task.ensures)))

pub returns-in-Whole-clause-moves : goal.returns-in-Whole-clause-moves
returns-in-Whole-clause-moves g c =
    moved_both _ _ _ (tasks_move _ (demand_at c.args.bench.now.content.profile c.split_at.result.0.now) c.args.bench.now c.task_of-task.new.bench c.args.meter.now c.task_of-task.ensures) c.perform.ensures.moves
