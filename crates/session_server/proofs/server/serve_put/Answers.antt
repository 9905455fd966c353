use Rattle.std.proofs.Common.{◌≡◌}
use Rattle.session_server.specs.Session.{served, with_octets}
use Rattle.session_server.specs.view.Task.{edit_of}
use Rattle.session_server.proofs.Moving.{edit_moves}
use Rattle.session_server.proofs.Serving.{answered, breaks_off, end_faults, ended, falls_short, put_replies, short, tried_replies, unkept_replies}
use Rattle.session_server.specs.declared.status.SessionEnd.TheVariants.{Truncated}
use Rattle.session_server.proofs.server.serve_put.Goals as goal

pub returns-in-Whole-Some-clause-goes : goal.returns-in-Whole-Some-clause-goes
returns-in-Whole-Some-clause-goes g c = λ runs.
    answered _ _ _ _ (λ rest. with_octets c.args.count rest (edit_of c.args.subject)) c.answer.result _ _ _ _ _ _ c.answer.ensures (
    put_replies c.args.count (edit_of c.args.subject) _ _ _ _ _ _ c.in-Whole-Some.ensures.taken
    (λ octets size kept.
    let same : c.in-Whole-Some.octets.items ≡ octets = rw c.in-Whole-Some.kept-is at kept in
    rw (← same) (tried_replies (edit_of c.args.subject c.in-Whole-Some.octets.items) c.keep.result c.args.bench.now c.keep.new.bench runs c.keep.ensures)))

pub returns-in-Whole-None-clause-goes : goal.returns-in-Whole-None-clause-goes
returns-in-Whole-None-clause-goes g c = λ runs.
    answered _ _ _ _ (λ rest. with_octets c.args.count rest (edit_of c.args.subject)) c.answer-in-Whole-None.result _ _ _ _ _ _ c.answer-in-Whole-None.ensures (
    put_replies c.args.count (edit_of c.args.subject) _ _ _ _ _ _ c.in-Whole-None.ensures.taken
    (λ octets size kept. rw (c.unkept.ensures, c.limit_of-limit.ensures) (unkept_replies c.args.subject c.args.count (served c.args.bench.now runs) octets size)))

pub returns-in-Truncated-clause-goes : goal.returns-in-Truncated-clause-goes
returns-in-Truncated-clause-goes g c = λ runs.
    ended _ _ _ _ _ Truncated c.refuse_octets.result _ _ _ _ _ (λ Q S q. q) c.refuse_octets.ensures
    (falls_short _ c.args.count _ _ (short c.args.count (edit_of c.args.subject)) c.in-Truncated.ensures.taken)

pub returns-in-Truncated-clause-faults : goal.returns-in-Truncated-clause-faults
returns-in-Truncated-clause-faults g c = end_faults _ _ _ _ Truncated c.refuse_octets.result _ _ _ _ tt c.refuse_octets.ensures

pub returns-in-Failed-clause-goes : goal.returns-in-Failed-clause-goes
returns-in-Failed-clause-goes g c = λ runs. breaks_off _ c.args.count _ _ _ _ (short c.args.count (edit_of c.args.subject)) c.in-Failed.ensures.taken.0

pub returns-in-Spent-clause-goes : goal.returns-in-Spent-clause-goes
returns-in-Spent-clause-goes g c = λ runs. breaks_off _ c.args.count _ _ _ _ (short c.args.count (edit_of c.args.subject)) c.in-Spent.ensures.taken.0

pub returns-in-Whole-Some-clause-moves : goal.returns-in-Whole-Some-clause-moves
returns-in-Whole-Some-clause-moves g c = λ runs. edit_moves (edit_of c.args.subject c.in-Whole-Some.octets.items) c.keep.result c.args.bench.now c.keep.new.bench runs c.keep.ensures
