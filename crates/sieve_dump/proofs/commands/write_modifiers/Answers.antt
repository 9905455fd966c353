use Rattle.sieve_dump.proofs.Dumping.{modifiers_text}
use Rattle.sieve_dump.proofs.commands.write_modifiers.Goals as goal

pub returns : goal.returns
returns g c = rw (modifiers_text c.args.modifiers _ _ _ _ c.case_word.ensures c.first_word.ensures c.given_word.ensures c.given_word-2.ensures) c.write_pieces.ensures
