use Rattle.message_text.proofs.LawLemmas.{addresses_are_whole}
use Rattle.message_text.proofs.laws.parts_join_to_the_address.Goals as goal

pub returns : goal.returns
returns c = record { parts = addresses_are_whole }
