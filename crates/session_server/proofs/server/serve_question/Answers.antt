use Rattle.session_server.specs.Session.{answer_to, asks, served}
use Rattle.session_server.proofs.Serving.{question_replies, step_cut}
use Rattle.session_server.proofs.server.serve_question.Goals as goal

pub returns-in-Err-clause-goes : goal.returns-in-Err-clause-goes
returns-in-Err-clause-goes g c = λ runs unused rest.
    let question = c.args.question.now in
    let state = served c.args.bench.now runs in
    let replies = question_replies question state unused in
    step_cut _ _ _ _ (λ rest. asks question rest) state state unused unused (answer_to state.bench.content question) replies c.in-Err.ensures
