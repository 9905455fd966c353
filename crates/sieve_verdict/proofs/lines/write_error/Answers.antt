use Rattle.sieve_verdict.proofs.Pieces.{error_pieces}
use Rattle.sieve_verdict.proofs.lines.write_error.Goals as goal

pub returns : goal.returns
returns g c = rw (error_pieces c.args.error.now _ c.word.ensures) c.write_pieces.ensures
