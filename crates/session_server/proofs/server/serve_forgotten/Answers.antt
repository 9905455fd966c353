use Rattle.session_server.specs.declared.status.SessionEnd.TheVariants.{Truncated}
use Rattle.session_server.proofs.Serving.{answered, breaks_off, end_faults, ended, falls_short, refused_replies}
use Rattle.session_server.proofs.server.serve_forgotten.Goals as goal

pub returns-in-Whole-clause-goes : goal.returns-in-Whole-clause-goes
returns-in-Whole-clause-goes g c = λ old request may.
    answered _ _ _ _ request c.answer.result old old _ _ _ _ c.answer.ensures (refused_replies c.args.count request old _ _ _ may c.in-Whole.ensures.taken)

pub returns-in-Truncated-clause-goes : goal.returns-in-Truncated-clause-goes
returns-in-Truncated-clause-goes g c = λ old request may.
    ended _ _ _ _ request Truncated c.refuse_octets.result old _ _ _ _ (λ Q S q. q) c.refuse_octets.ensures (falls_short request c.args.count _ _ may.where_short c.in-Truncated.ensures.taken)

pub returns-in-Truncated-clause-faults : goal.returns-in-Truncated-clause-faults
returns-in-Truncated-clause-faults g c = end_faults _ _ _ _ Truncated c.refuse_octets.result _ _ _ _ tt c.refuse_octets.ensures

pub returns-in-Failed-clause-goes : goal.returns-in-Failed-clause-goes
returns-in-Failed-clause-goes g c = λ old request may. breaks_off request c.args.count old _ _ _ may.where_short c.in-Failed.ensures.taken.0

pub returns-in-Spent-clause-goes : goal.returns-in-Spent-clause-goes
returns-in-Spent-clause-goes g c = λ old request may. breaks_off request c.args.count old _ _ _ may.where_short c.in-Spent.ensures.taken.0
