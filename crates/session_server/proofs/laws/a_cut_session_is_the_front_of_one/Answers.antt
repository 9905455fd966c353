use Rattle.session_server.proofs.Endings.{cut_is_front}
use Rattle.session_server.proofs.laws.a_cut_session_is_the_front_of_one.Goals as goal

pub returns : goal.returns
returns c = cut_is_front
