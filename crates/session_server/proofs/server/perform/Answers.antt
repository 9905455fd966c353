use Rattle.std.proofs.Common.{◌≡◌, None, Some}
use Rattle.session_server.specs.declared.status.SessionEnd.TheVariants.{Syntax}
use Rattle.session_server.specs.Session.{asks_put, asks_question, asks_report, request_by, served}
use Rattle.session_server.specs.view.Task.{IsFollowedBy, IsTried, edit_of}
use Rattle.session_server.proofs.Requests.{forgotten, unreadable_ends}
use Rattle.session_server.proofs.Serving.{ended}
use Rattle.session_server.proofs.server.perform.Goals as goal

pub returns-in-Made-clause-goes : goal.returns-in-Made-clause-goes
returns-in-Made-clause-goes g c = λ ask old is.
    let is' : IsTried ask c.in-Made.outcome old c.args.bench.now = rw c.in-Made.is at is in
    c.serve_made.ensures.goes ask old c.args.bench.now _ _ _ is'

pub returns-in-Report-clause-goes : goal.returns-in-Report-clause-goes
returns-in-Report-clause-goes g c = λ ask old is.
    let is' : (ask ≡ Some asks_report) × (c.args.bench.now ≡ old) = rw c.in-Report.is at is in
    rw is'.0 (rw (← is'.1) (c.serve_report.ensures.goes _ _))

pub returns-in-Ask-clause-goes : goal.returns-in-Ask-clause-goes
returns-in-Ask-clause-goes g c = λ ask old is.
    let is' : (ask ≡ Some (asks_question c.in-Ask.question)) × (c.args.bench.now ≡ old) = rw c.in-Ask.is at is in
    rw is'.0 (rw (← is'.1) (c.serve_question.ensures.goes _ _ _))

pub returns-in-Forgotten-clause-goes : goal.returns-in-Forgotten-clause-goes
returns-in-Forgotten-clause-goes g c = λ ask old is.
    let is' : IsFollowedBy c.in-Forgotten.count ask × (c.args.bench.now ≡ old) = rw c.in-Forgotten.is at is in
    rw (← is'.1) (c.serve_forgotten.ensures.goes _ _ (forgotten ask c.in-Forgotten.count is'.0))

pub returns-in-Put-clause-goes : goal.returns-in-Put-clause-goes
returns-in-Put-clause-goes g c = λ ask old is.
    let is' : (ask ≡ Some (asks_put c.in-Put.count (λ octets. edit_of c.in-Put.subject octets))) × (c.args.bench.now ≡ old) = rw c.in-Put.is at is in
    rw is'.0 (rw (← is'.1) (c.serve_put.ensures.goes _))

pub returns-in-Unreadable-clause-goes : goal.returns-in-Unreadable-clause-goes
returns-in-Unreadable-clause-goes g c = λ ask old is.
    let is' : (ask ≡ None) × (c.args.bench.now ≡ old) = rw c.in-Unreadable.is at is in
    rw is'.0 (rw (← is'.1) (ended _ _ _ _ (request_by None) Syntax c.refuse_line.result (served c.args.bench.now c.args.meter.now) _ _ _ _ (λ Q S q. q) c.refuse_line.ensures (unreadable_ends _)))

pub returns-in-Put-clause-moves : goal.returns-in-Put-clause-moves
returns-in-Put-clause-moves g c = c.serve_put.ensures.moves _

pub returns-in-Report-clause-moves : goal.returns-in-Report-clause-moves
returns-in-Report-clause-moves g c = c.serve_report.ensures.moves
