use Rattle.session_server.proofs.Endings.{broken_is_front, broken_with_more}
use Rattle.session_server.proofs.laws.a_broken_session_is_the_front_of_one.Goals as goal

pub returns-clause-steps : goal.returns-clause-steps
returns-clause-steps c = broken_with_more

pub returns-clause-front : goal.returns-clause-front
returns-clause-front c = broken_is_front
