use Rattle.std.proofs.Common.{arith}
use Rattle.jiff_core.proofs.SignedLemmas.{signed_arith}
use Rattle.date_text.proofs.moment.Moment.minutes_at.Goals as goal

pub returns-clause-is : goal.returns-clause-is
returns-clause-is c = omega (arith, signed_arith, c.from.ensures, c.from-2.ensures, c.shift.ensures.is)
