use Rattle.std.proofs.Common.{refl}
use Rattle.sieve_variables.specs.Scan.{pieces_of}
use Rattle.sieve_variables.proofs.Cut.{cuts_from}
use Rattle.sieve_variables.proofs.Written.{grouped-written}
use Rattle.sieve_variables.proofs.laws.parts_are_written.Goals as goal

pub returns-clause-cut : goal.returns-clause-cut
returns-clause-cut c = λ text. (pieces_of text, cuts_from 0 text, refl)

pub returns-clause-written : goal.returns-clause-written
returns-clause-written c = λ text. grouped-written (pieces_of text) text (cuts_from 0 text)
