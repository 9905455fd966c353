use Rattle.session_server.specs.Session.{edits, served}
use Rattle.session_server.proofs.Serving.{answered, edit_replies, tried_replies}
use Rattle.session_server.proofs.Tried.{tried}
use Rattle.session_server.proofs.server.serve_made.Goals as goal

pub returns-clause-goes : goal.returns-clause-goes
returns-clause-goes g c = λ ask old new runs unused rest is.
    let made = tried ask c.args.outcome old new is in
    let replies = edit_replies made.0 (served old runs) (served new runs) unused _ (tried_replies made.0 c.args.outcome old new runs made.2) in
    rw made.1 (answered _ _ _ _ (λ rest. edits made.0 rest) c.answer.result (served old runs) (served new runs) unused unused rest _ c.answer.ensures replies)
