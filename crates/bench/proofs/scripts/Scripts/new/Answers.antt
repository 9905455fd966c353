use Rattle.std.proofs.Common.{◌≡◌, [], refl}
use Rattle.bench.specs.view.Scripts.{AreOf, texts_of}
use Rattle.bench.proofs.scripts.Scripts.new.Goals as goal

pub invariant_of-result : goal.invariant_of-result
unfolding AreOf
invariant_of-result c = let none : c.new.result.entries ≡ [] = c.new.ensures.empty in rw none tt

pub returns : goal.returns
unfolding texts_of
returns c = let none : c.new.result.entries ≡ [] = c.new.ensures.empty in rw none refl
