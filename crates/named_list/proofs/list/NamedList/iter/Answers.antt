use Rattle.std.proofs.Common.{length, ap, arith}
use Rattle.std.proofs.iter.runs.Sources.{from_front}
use Rattle.std.specs.Map.Iter.{TakesFirst, deref_pair}
use Rattle.named_list.proofs.Entries.{length-slots}
use Rattle.named_list.proofs.list.NamedList.iter.Goals as goal

pub returns-clause-runs : goal.returns-clause-runs
returns-clause-runs g c = from_front (TakesFirst deref_pair) deref_pair (λ s. s) (λ s t h. ap length h.0) (λ s x t h. h)

pub returns-clause-fits : goal.returns-clause-fits
returns-clause-fits g c = let all = length-slots c.self.inside.slots.entries c.self.invariant.0 in rw (← c.self.view_is) (omega (arith, all, c.iter.ensures.fits))
