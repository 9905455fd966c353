-- The spelling that a turn writes goes to the end of the spelling that the turns before it wrote.
use Rattle.std.proofs.Common.{take, ◌++◌, subst, sym}
use Rattle.std.proofs.lemmas.Grind.{flat_map-append}
use Rattle.devices.specs.Writers.{Wrote, octet_spelling}
use Rattle.devices.proofs.Writing.{front_moves, wrote_both}
use Rattle.devices.proofs.writers.write_spelled.Goals as goal

pub loop-rest-preserved : goal.loop-rest-preserved
loop-rest-preserved g c =
    let (done, split, wrote) = c.loop-rest.invariant in
    let rest = c.loop-rest.rest.now in
    let n = c.in_ok-spelled.spelled in (
      done ++ take n rest,
      front_moves _ done rest c.split_at.result.1.now n c.split_at.ensures.back split,
      subst (Wrote _ _ _ _) (sym (flat_map-append octet_spelling done (take n rest))) (wrote_both _ _ _ _ _ _ _ wrote c.in_ok-spelled.ensures.ok),
    )
